-- The masks of a book's states are one array: of each entry `Masked` says what it is, and how many there are. Assumes nothing.
use Prim.Native.Nat.{ℕ, ◌-◌, ◌≤◌, ◌<◌}
use mathlib.Core.Path.{◌≡◌, sym, subst, ◌∙◌}
use mathlib.Core.Logic.{by_cases}
use mathlib.Core.List.{List}
use native.Mathlib.Omega.{arith}
use native.Mathlib.Decide.{dec_lt}
use lib.ListN.{get_or}
use lib.Seq.{ext_get_or}
use Rattle.book.specs.Reading.{State}
use Rattle.book.specs.Outline.{focus_starts, focus_accepts, right_starts, all_starts, all_accepts, left_starts, right_accepts, mask_count, Masked}

module _ (states : List State) (l m : List ℕ) (p : Masked states l) (q : Masked states m) where
  abbrev Alike : ℕ → Type 0
  Alike k = get_or l k 0 ≡ get_or m k 0

  -- those of all rules
  last_masks : (k : ℕ) → all_starts ≤ k → k < mask_count → Alike k
  last_masks k low h =
      by_cases (dec_lt k all_accepts) (λ g. let e : all_starts ≡ k = omega arith in subst Alike e (p.all_starts_lem ∙ sym q.all_starts_lem))
      (λ a. by_cases (dec_lt k left_starts) (λ g. let e : all_accepts ≡ k = omega arith in subst Alike e (p.all_accepts_lem ∙ sym q.all_accepts_lem))
      (λ c. by_cases (dec_lt k right_accepts) (λ g. let e : left_starts ≡ k = omega arith in subst Alike e (p.left_starts_lem ∙ sym q.left_starts_lem))
      (λ g. let e : right_accepts ≡ k = omega arith in subst Alike e (p.right_accepts_lem ∙ sym q.right_accepts_lem))))

  alike : (k : ℕ) → k < mask_count → Alike k
  alike k h =
      by_cases (dec_lt k (focus_starts 0)) (λ g. p.left_accepts_lem k (omega arith) ∙ sym (q.left_accepts_lem k (omega arith)))
      (λ a. by_cases (dec_lt k (focus_accepts 0))
      (λ g. let e : focus_starts (k - focus_starts 0) ≡ k = omega arith in
      subst Alike e (p.focus_starts_lem (k - focus_starts 0) (omega arith) ∙ sym (q.focus_starts_lem (k - focus_starts 0) (omega arith))))
      (λ c. by_cases (dec_lt k (right_starts 0))
      (λ g. let e : focus_accepts (k - focus_accepts 0) ≡ k = omega arith in
      subst Alike e (p.focus_accepts_lem (k - focus_accepts 0) (omega arith) ∙ sym (q.focus_accepts_lem (k - focus_accepts 0) (omega arith))))
      (λ d. by_cases (dec_lt k all_starts)
      (λ g. let e : right_starts (k - right_starts 0) ≡ k = omega arith in
      subst Alike e (p.right_starts_lem (k - right_starts 0) (omega arith) ∙ sym (q.right_starts_lem (k - right_starts 0) (omega arith))))
      (λ g. last_masks k (omega arith) h))))

  pub one_masks : l ≡ m
  one_masks = ext_get_or 0 l m (p.long ∙ sym q.long) (λ k h. alike k (omega (arith, p.long)))
