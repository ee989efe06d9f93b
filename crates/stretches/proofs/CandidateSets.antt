-- The sets along a tape decide the candidates: what the walk from i tests at each end, and where it may stop. By the laws of set meaning.
-- Assumes nothing.
use Prim.Native.Nat.{ℕ, suc, ◌+◌, ◌-◌, ◌≤◌}
use mathlib.Core.List.{List}
use mathlib.Core.Bool.{Bool, true, false, ◌&&◌, cond}
use mathlib.Core.Path.{◌≡◌, refl, sym, ap, ◌∙◌}
use native.Mathlib.Omega.{arith}
use lib.Dec.{T}
use lib.ListN.{length}
use lib.Seq.{slice}
use Rattle.book.specs.Format.{left_part, focus_part, right_part}
use Rattle.book.specs.Reading.{Book}
use Rattle.book.specs.Language.{Rules, up_from, accepts, rules}
use Rattle.book.specs.Sound.{Sound}
use Rattle.book.proofs.Tests.{any_out}
use Rattle.sets.specs.Sets.{left_at, right_at}
use Rattle.sets.specs.Focus.{meets_accept, meets_start, focus_at}
use Rattle.sets.proofs.Meaning.{left_holds, right_holds, focus_test, focus_dead}
use Rattle.stretches.specs.Candidates.{candidate, some_rule, rules_of, last_of, longest}
use Rattle.stretches.proofs.Last.{last_none, last_split, last_snoc}

-- the walk from i goes up to j, and best is where the last candidate met ends: i itself is no farther than none
module _ (b : Rules) (t : List ℕ) (i : ℕ) where
  abbrev pub Best : ℕ → ℕ → Type 0
  Best j best = best ≡ last_of (some_rule b t i) (up_from (suc i) (j - i)) i

  longest_past : i ≤ length t → longest b t i ≡ last_of (some_rule b t i) (up_from (suc i) (length t - i)) i
  unfolding longest
  longest_past h =
      let e : suc (length t) - i ≡ suc (length t - i) = omega arith in
      ap (λ (k : ℕ). last_of (some_rule b t i) (up_from i k) i) e ∙ ap (last_of (some_rule b t i) (up_from (suc i) (length t - i))) (same (some_rule b t i i))
    where
      same : (c : Bool) → cond c i i ≡ i
      same true = refl
      same false = refl

  pub best_first : Best i i
  best_first = let e : i - i ≡ 0 = omega arith in rw e

  pub best_next : (j best : ℕ) → i ≤ j → Best j best → Best (suc j) (cond (some_rule b t i (suc j)) (suc j) best)
  best_next j best g e =
      let e₁ : suc j - i ≡ suc (j - i) = omega arith in
      let e₂ : suc i + (j - i) ≡ suc j = omega arith in
      rw (e₁, last_snoc (some_rule b t i) (suc i) (j - i) i, e₂, e)

  pub best_end : (j best : ℕ) → i ≤ j → j ≡ length t → Best j best → best ≡ longest b t i
  best_end j best g z e = e ∙ ap (λ (k : ℕ). last_of (some_rule b t i) (up_from (suc i) (k - i)) i) z ∙ sym (longest_past (omega arith))

module _ (b : Book) (h : Sound b) (t : List ℕ) where
  -- the contexts by the sets, the focus language itself
  pub candidate_sets : (i j r : ℕ)
      → candidate (rules b) t i j r
      ≡ (accepts b r focus_part (slice i j t) && meets_accept b r left_part (left_at b t i) && meets_start b r right_part (right_at b t j))
  unfolding candidate
  candidate_sets i j r = rw (left_holds b h t r i, right_holds b h t r j)

  module _ (i : ℕ) where
    -- a stretch is a candidate of r exactly if both tests pass
    pub candidate_test : (r j : ℕ) → i ≤ j
        → candidate (rules b) t i j r ≡ (meets_accept b r focus_part (focus_at b t i j) && meets_start b r right_part (right_at b t j))
    unfolding candidate
    candidate_test r j g = focus_test b h t i j r g

    -- where the focus set is empty no candidate ends there or later
    pub dead : (r j k : ℕ) → i ≤ j → j ≤ k → focus_at b t i j ≡ 0 → T (candidate (rules b) t i k r) → ⊥
    unfolding candidate
    dead r j k g l none c = focus_dead b h t i j k r g l none c

    -- so the best there is the longest
    pub best_dead : (j best : ℕ) → i ≤ j → j ≤ length t → focus_at b t i j ≡ 0 → Best (rules b) t i j best → best ≡ longest (rules b) t i
    best_dead j best g l none is =
        let hit = some_rule (rules b) t i in
        let e : length t - i ≡ (j - i) + (length t - j) = omega arith in
        is ∙ sym (longest_past (rules b) t i (omega arith)
        ∙ ap (λ (m : ℕ). last_of hit (up_from (suc i) m) i) e
        ∙ last_split hit (suc i) (j - i) (length t - j) i
        ∙ last_none hit (suc i + (j - i)) (length t - j) (last_of hit (up_from (suc i) (j - i)) i)
        (λ x a c u. let z = any_out (candidate (rules b) t i x) (rules_of (rules b)) u in dead z.0 j x g (omega arith) none z.2))
