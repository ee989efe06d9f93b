-- The ends of a start, one after the other: the walk from it goes on while a candidate may still end later. Assumes nothing.
use Prim.Native.Nat.{ℕ, ◌+◌, ◌≤◌, ◌<◌}
use mathlib.Core.Path.{◌≡◌, refl, sym, ◌∙◌}
use mathlib.Core.List.{List}
use native.Mathlib.Omega.{arith}
use lib.ListN.{length, get_or}
use Rattle.book.specs.Reading.{Book, book_of}
use Rattle.book.specs.Language.{rules_in}
use Rattle.sets.specs.Sets.{left_at}
use Rattle.sets.specs.Focus.{focus_first, focus_next}
use Rattle.sets.specs.Tables.{right_set}
use Rattle.stretches.specs.Ready.{RightSets}
use Rattle.stretches.specs.Candidates.{candidate}
use Rattle.stretches.specs.Position.{hits}
use Rattle.stretches.proofs.Pruned.{Pruned, pruned_start, pruned_turn, pruned_hits, pruned_dead}
use Rattle.lines.specs.Ends.{EndSets, EndsLeft, NoneFrom}

pruned : (b : Book) (t : List ℕ) (i j set right : ℕ) → EndSets b t i j set right → Pruned b t i j set
pruned b t i j set right e = record { low = e.low; high = e.high; states = e.states }

module _ (book t sets scratch : List ℕ) (seen : RightSets book t sets scratch) (i : ℕ) where
  abbrev b : Book
  b = book_of book

  here_at : (j set R : ℕ) → R ≡ right_set sets (get_or scratch j 0) → Pruned b t i j set → EndSets b t i j set R
  here_at j set R e p = record { low = p.low; high = p.high; states = p.states; here = e ∙ seen.right j p.high }

  pub ends_start : (L R F : ℕ) → i ≤ length t → L ≡ left_at b t i → R ≡ right_set sets (get_or scratch i 0) → F ≡ focus_first b L R → EndsLeft b t i i F R
  ends_start L R F k e f g = record {
    low = omega arith;
    here = λ h. here_at i F R f (pruned_start book t sets scratch seen i L R F k e f g);
    past = λ h. absurd (omega arith);
  }

  module _ (j set right : ℕ) (was : EndsLeft b t i j set right) where
    pub ends_turn : j < length t → (R X : ℕ) → R ≡ right_set sets (get_or scratch (j + 1) 0) → X ≡ focus_next b set (get_or t j 0) R → EndsLeft b t i (j + 1) X R
    ends_turn inside R X e f =
        let low = was.low in
        record {
          low = omega arith;
          here = λ h. here_at (j + 1) X R e (pruned_turn book t sets scratch seen i j set (pruned b t i j set right (was.here (omega arith))) inside R X e f);
          past = λ h. absurd (omega arith);
        }

    pub ends_last : length t ≤ j → EndsLeft b t i (j + 1) 0 right
    ends_last past =
        let low = was.low in
        record { low = omega arith; here = λ h. absurd (omega arith); past = λ h. refl }

    pub ends_dead : set ≡ 0 → NoneFrom (rules_in book) t i j
    ends_dead z r k h g = pruned_dead book t sets scratch seen i j set (pruned b t i j set right (was.here (omega arith))) z r k h

  -- which rules pass there is which have a candidate
  pub end_hits : (j set right : ℕ) → EndSets b t i j set right → (r : ℕ) → hits b set right r ≡ candidate (rules_in book) t i j r
  end_hits j set right e r =
      pruned_hits book t sets scratch seen i j set (pruned b t i j set right e) right (e.here ∙ sym (seen.right j e.high)) r
