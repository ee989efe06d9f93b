-- The walk from a start: at each end the two tests are those of a candidate, and where no state is left no candidate ends later.
-- Assumes nothing.
use Prim.Native.Nat.{ℕ, suc, ◌+◌, ◌≤◌, ◌<◌}
use mathlib.Core.Path.{◌≡◌, sym, ap, ◌∙◌}
use mathlib.Core.Bool.{◌&&◌}
use mathlib.Core.List.{List}
use native.Mathlib.Omega.{arith}
use native.Mathlib.Numerals.{add-one}
use lib.Dec.{T}
use lib.ListN.{length, get_or}
use Rattle.book.specs.Format.{focus_part, right_part}
use Rattle.book.specs.Reading.{Book, book_of}
use Rattle.book.specs.Language.{rules_in}
use Rattle.book.proofs.Claims.{sound}
use Rattle.sets.specs.Sets.{left_at, right_at}
use Rattle.sets.specs.Focus.{focus_at, focus_first, focus_next, meets_accept, meets_start}
use Rattle.sets.specs.Tables.{right_set}
use Rattle.sets.proofs.Meaning.{focus_first_lem, focus_next_lem}
use Rattle.stretches.specs.Candidates.{candidate}
use Rattle.stretches.specs.Ready.{RightSets}
use Rattle.stretches.specs.Position.{hits}
use Rattle.stretches.proofs.CandidateSets.{candidate_test, dead}

-- the walk from i has come to j, and its states there are `set`
pub record Pruned (b : Book) (t : List ℕ) (i j set : ℕ) : Type 0 where
  pub low : i ≤ j
  pub high : j ≤ length t
  pub states : set ≡ focus_at b t i j

module _ (book tape sets scratch : List ℕ) (seen : RightSets book tape sets scratch) (i : ℕ) where
  abbrev b : Book
  b = book_of book

  -- the right set that is read at j
  right_at_lem : (j R : ℕ) → j ≤ length tape → R ≡ right_set sets (get_or scratch j 0) → R ≡ right_at b tape j
  right_at_lem j R h e = e ∙ seen.right j h

  pub pruned_start : (L R F : ℕ) → i ≤ length tape → L ≡ left_at b tape i → R ≡ right_set sets (get_or scratch i 0) → F ≡ focus_first b L R
      → Pruned b tape i i F
  pruned_start L R F k e f g = record { low = omega arith; high = k; states = rw (g, e, right_at_lem i R k f) (sym (focus_first_lem b tape i)) }

  module _ (j set : ℕ) (was : Pruned b tape i j set) where
    pub pruned_turn : j < length tape → (R X : ℕ) → R ≡ right_set sets (get_or scratch (j + 1) 0) → X ≡ focus_next b set (get_or tape j 0) R
        → Pruned b tape i (j + 1) X
    pruned_turn inside R X e f =
        let l = was.low in
        let right : R ≡ right_at b tape (suc j) = right_at_lem (j + 1) R (omega arith) e ∙ ap (right_at b tape) (add-one j) in
        rw add-one (record { low = omega arith; high = inside; states = f ∙ rw (was.states, right) (sym (focus_next_lem b tape i j was.low inside)) })

    -- the tests at j, rule after rule, are those of the candidates that end there, the empty one among them
    pub pruned_hits : (R : ℕ) → R ≡ right_set sets (get_or scratch j 0) → (r : ℕ) → hits b set R r ≡ candidate (rules_in book) tape i j r
    unfolding hits
    pruned_hits R e r =
        let right = right_at_lem j R was.high e in
        sym (candidate_test b (sound book seen.accepted) tape i r j was.low
        ∙ (λ x. meets_accept b r focus_part (sym was.states x) && meets_start b r right_part (sym right x)))

    pub pruned_dead : set ≡ 0 → (r k : ℕ) → j ≤ k → T (candidate (rules_in book) tape i k r) → ⊥
    pruned_dead z r k h = dead b (sound book seen.accepted) tape i r j k was.low h (sym was.states ∙ z)
