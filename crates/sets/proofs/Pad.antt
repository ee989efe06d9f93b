-- Clearing: a list of zeros in place of another one. The laws of pad are crates/book's. Assumes nothing.
use Prim.Native.Nat.{ℕ, ◌≤◌}
use mathlib.Core.Path.{◌≡◌, sym, ap, ◌∙◌}
use mathlib.Core.List.{List, []}
use lib.ListN.{length, take, replicate}
use lib.Seq.{length-take-le}
use Rattle.sets.specs.Numbering.{pad}
use Rattle.book.proofs.Pad.{pad_nil}
pub use Rattle.book.proofs.Pad.{length_pad, take_pad, get_or_pad, pad_nil, set_pad, get_or_pad_all}

pub cleared_whole : (n : ℕ) (d l : List ℕ) → length d ≡ n → l ≡ replicate (length d) 0 → l ≡ pad n []
cleared_whole n d l h e = e ∙ ap (λ (k : ℕ). replicate k 0) h ∙ sym (pad_nil n)

-- the front of a list
pub cleared : (n : ℕ) (d l : List ℕ) → n ≤ length d → l ≡ replicate (length (take n d)) 0 → l ≡ pad n []
cleared n d l h e = cleared_whole n (take n d) l (length-take-le n d h) e
