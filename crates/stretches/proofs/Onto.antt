-- Laws of `onto`, a list written over the front of another: its length is that of the other, and its front is what was written.
-- Assumes nothing.
use Prim.Native.Nat.{ℕ, ◌≤◌, ◌<◌}
use mathlib.Core.Path.{◌≡◌}
use mathlib.Core.List.{List}
use native.Mathlib.Omega.{arith}
use lib.ListN.{length, drop, get_or, length-append, length-drop, get_or-append}
use Rattle.stretches.specs.Buffers.{onto}

pub onto_length : (v l : List ℕ) → length v ≤ length l → length (onto v l) ≡ length l
onto_length v l h = simp (length-append, length-drop) (omega arith)

pub onto_at : (v l : List ℕ) (k : ℕ) → k < length v → get_or (onto v l) k 0 ≡ get_or v k 0
onto_at v l k h = get_or-append v (drop (length v) l) 0 k h
