-- The walk over an accepted book, as `Records` yields its records. Assumes nothing.
use Prim.Native.Nat.{ℕ, ◌+◌}
use mathlib.Core.Path.{◌≡◌, refl, ap₂, sym, ◌∙◌}
use mathlib.Core.List.{List}
use lib.ListN.{length}
use borrow.Author.Tests.{ne_eqb, lt-leb, le-ltb}
use Rattle.std.specs.Prelude.{None, Some}
use Rattle.book.specs.declared.record.Record.{Record}
use Rattle.book.specs.declared.record.Records.{Records}
use Rattle.book.specs.Format.{end_kind, byte, record_size}
use Rattle.book.specs.Reading.{Book, book_of, scan_of}
use Rattle.book.specs.Scanning.{whole_reply}
use Rattle.book.specs.Records.{Steps}
use Rattle.book.proofs.Passed.{Passed}
use Rattle.book.proofs.Walk.{Walk, walk_passed}

-- a record c that the records r of s yield, and what is left of them
pub record Given (s : List ℕ) (r : Records) (c : Record) (t : Records) : Type 0 where
  pub place : c.at ≡ r.at
  pub book : c.book.now ≡ s
  pub kind : byte c.book.now c.at ≡ byte s r.at
  pub more : byte s r.at ≡ end_kind → ⊥
  pub same : t.book.now ≡ s
  pub past : t.at ≡ r.at + record_size (byte s r.at)

whole : (s : List ℕ) (at : ℕ) (b : Book) → Passed s at (scan_of b) → whole_reply s at ≡ 0
unfolding whole_reply
whole s at b p = simp (lt-leb (length s) at p.inside, ne_eqb _ 0 p.known, le-ltb (length s) _ p.whole)

module _ (s : List ℕ) (r : Records) (b : Book) (same : r.book.now ≡ s) (walk : Walk s r.at b (book_of s)) (t : Records) where
  pub given : (c : Record) → Steps r (Some c) t → Given s r c t
  given c p = record {
    place = p.1;
    book = p.0 ∙ same;
    kind = ap₂ byte (p.0 ∙ same) p.1;
    more = λ e. p.2 (ap₂ byte same refl ∙ e);
    same = p.3 ∙ same;
    past = p.4 ∙ ap₂ (λ u at. at + record_size (byte u at)) same refl;
  }

  pub at_end : Steps r None t → byte s r.at ≡ end_kind
  at_end p = sym (ap₂ byte same refl) ∙ p (ap₂ whole_reply same refl ∙ whole s r.at b (walk_passed s r.at b _ walk))
