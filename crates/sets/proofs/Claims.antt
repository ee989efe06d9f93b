-- What BUILD's reply and counts say of the book: "The count for a side is the number of different sets over all tapes of any length"; 13 and
-- 14 are given exactly when there are more than 256. Assumes nothing.
use Prim.Native.Nat.{ℕ, ◌≤◌, ◌<◌}
use mathlib.Core.Path.{◌≡◌, sym, ap, subst}
use mathlib.Core.Logic.{◌↔◌, ◌⊎◌, inl, inr}
use mathlib.Core.List.{List}
use native.Mathlib.Omega.{arith}
use native.Mathlib.Decide.{dec_lt}
use lib.ListN.{length}
use Rattle.book.specs.Reading.{book_of}
use Rattle.sets.specs.Numbering.{most_sets}
use Rattle.sets.specs.Workspace.{row_bytes, set_words, left_table, right_table, AfterBuild, build_def}
use Rattle.sets.specs.Tables.{left_count, right_count, Buildable}
use Rattle.sets.specs.Counting.{left_over, right_over, Exactly, MoreThan}
use Rattle.sets.proofs.Counting.{front, end, law_exactly, law_many, law_few}
use Rattle.sets.proofs.WaysOut.{Way, refused, short, many_left, many_right, built, way, reply, way_accepted}

-- more than 256 left sets, right sets, by the numbering and over all tapes
pub left_many : (book : List ℕ) → (most_sets < left_count book) ↔ MoreThan (left_over (book_of book)) most_sets
unfolding left_count left_table
left_many book = (law_many _ _ _ (front _ _), law_few _ _ _ (front _ _))

pub right_many : (book : List ℕ) → (most_sets < right_count book) ↔ MoreThan (right_over (book_of book)) most_sets
unfolding right_count right_table
right_many book = (law_many _ _ _ (end _ _), law_few _ _ _ (end _ _))

-- not more: the count is exactly the number of different sets
pub left_exactly : (book : List ℕ) → left_count book ≤ most_sets → Exactly (left_over (book_of book)) (left_count book)
unfolding left_count left_table
left_exactly book few = law_exactly _ _ _ (front _ _) few

pub right_exactly : (book : List ℕ) → right_count book ≤ most_sets → Exactly (right_over (book_of book)) (right_count book)
unfolding right_count right_table
right_exactly book few = law_exactly _ _ _ (end _ _) few

-- the counts of an accepted book
module _ (book R S : List ℕ) where
  pub left_count_lem : reply (build_def book R S) ≡ 0 → Exactly (left_over (book_of book)) (build_def book R S).answer.left
  unfolding left_count
  left_count_lem z =
      let w = way_accepted book R S _ (way book R S) z in
      subst (Exactly (left_over (book_of book))) (sym (ap (λ (y : AfterBuild). y.answer.left) w.2)) (left_exactly book w.0)

  pub right_count_lem : reply (build_def book R S) ≡ 0 → Exactly (right_over (book_of book)) (build_def book R S).answer.right
  unfolding right_count
  right_count_lem z =
      let w = way_accepted book R S _ (way book R S) z in
      subst (Exactly (right_over (book_of book))) (sym (ap (λ (y : AfterBuild). y.answer.right) w.2)) (right_exactly book w.1)

-- the reply of an accepted book in a workspace that is long enough, by the two counts
data CountReply (book : List ℕ) (r : ℕ) : Type 0 where
  left : most_sets < left_count book → r ≡ 13 → CountReply book r
  right : left_count book ≤ most_sets → most_sets < right_count book → r ≡ 14 → CountReply book r
  neither : left_count book ≤ most_sets → right_count book ≤ most_sets → r ≡ 0 → CountReply book r

module _ (book R S : List ℕ) (o : Buildable book R S) where
  not_short : (length R < row_bytes) ⊎ (length S < set_words) → ⊥
  not_short (inl h) = omega (arith, o.rows)
  not_short (inr h) = omega (arith, o.sets)

  way_counted : (x : AfterBuild) → Way book R S x → CountReply book (reply x)
  way_counted x (refused h e) = absurd (h o.accepted)
  way_counted x (short h s e) = absurd (not_short s)
  way_counted x (many_left p l e) = left l (ap reply e)
  way_counted x (many_right p l r e) = right l r (ap reply e)
  way_counted x (built p l r e) = neither l r (ap reply e)

  reply_counted : CountReply book (reply (build_def book R S))
  reply_counted = way_counted (build_def book R S) (way book R S)

  by_left : (r : ℕ) → CountReply book r → (r ≡ 13) ↔ (most_sets < left_count book)
  by_left r (left h e) = (λ _. h, λ _. e)
  by_left r (right h g e) = (λ z. absurd (omega arith), λ l. absurd (omega arith))
  by_left r (neither h g e) = (λ z. absurd (omega arith), λ l. absurd (omega arith))

  by_right : (r : ℕ) → CountReply book r → (r ≡ 14) ↔ ((left_count book ≤ most_sets) × (most_sets < right_count book))
  by_right r (left h e) = (λ z. absurd (omega arith), λ l. absurd (omega arith))
  by_right r (right h g e) = (λ _. (h, g), λ _. e)
  by_right r (neither h g e) = (λ z. absurd (omega arith), λ l. absurd (omega arith))

  at_most : (n : ℕ) (P : Type 0) → (most_sets < n) ↔ P → (n ≤ most_sets) ↔ (P → ⊥)
  at_most n P e = (λ h p. omega (arith, e.1 p), λ f. by (dec_lt most_sets n) f)
    where
      by : Dec (most_sets < n) → (P → ⊥) → n ≤ most_sets
      by (yes h) f = absurd (f (e.0 h))
      by (no h) f = omega arith

  -- 13 exactly when there are more than 256 left sets; 14 exactly when there are not, and more than 256 right sets
  pub reply_13 : (reply (build_def book R S) ≡ 13) ↔ MoreThan (left_over (book_of book)) most_sets
  reply_13 = let p = by_left _ reply_counted in let q = left_many book in (λ z. q.0 (p.0 z), λ m. p.1 (q.1 m))

  pub reply_14 : (reply (build_def book R S) ≡ 14) ↔ ((MoreThan (left_over (book_of book)) most_sets → ⊥) × MoreThan (right_over (book_of book)) most_sets)
  reply_14 =
      let p = by_right _ reply_counted in
      let f = at_most _ _ (left_many book) in
      let q = right_many book in
      (λ z. let h = p.0 z in (f.0 h.0, q.0 h.1), λ m. p.1 (f.1 m.0, q.1 m.1))
