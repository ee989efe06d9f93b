-- The backward pass: a buffer that is filled from its end to its front, each number by the right rows from the one before it.
-- Assumes nothing.
use Prim.Native.Nat.{ℕ, zero, suc, ◌+◌, ◌-◌, ◌≤◌, ◌<◌}
use mathlib.Core.Path.{◌≡◌, refl, sym, ◌∙◌, ap, ap₂, subst}
use mathlib.Core.List.{List, [], ◌∷◌, ◌++◌, map}
use native.Mathlib.Nat.{add-zero, sub-zero}
use native.Mathlib.Numerals.{add-one}
use native.Mathlib.Omega.{arith}
use lib.ListN.{length, take, drop, get_or, set, length-set}
use lib.Seq.{take-suc, drop-cons, drop-length, set_at, split_at, length-take-le, get_or-set_same, drop-set-lt, append_snoc}
use Rattle.book.specs.Language.{up_from}
use Rattle.sets.specs.Numbering.{most_sets}
use Rattle.sets.specs.Tables.{right_entry}
use Rattle.stretches.specs.Buffers.{onto}
use Rattle.rewriter.specs.Opening.{right_number, right_all}

-- what a function says of the numbers from a on: how many, and the one at k
pub length_up : (f : ℕ → ℕ) (a n : ℕ) → length (map f (up_from a n)) ≡ n
length_up f a zero = refl
length_up f a (suc n) = ap suc (length_up f (suc a) n)

pub at_up : (f : ℕ → ℕ) (a n k : ℕ) → k < n → get_or (map f (up_from a n)) k 0 ≡ f (a + k)
at_up f a zero k h = absurd (omega arith)
at_up f a (suc n) zero h = rw add-zero
at_up f a (suc n) (suc k) h = at_up f (suc a) n k (omega arith) ∙ ap f (omega arith)

pub same_up : (f g : ℕ → ℕ) → ((k : ℕ) → f k ≡ g k) → (a n : ℕ) → map f (up_from a n) ≡ map g (up_from a n)
same_up f g e a zero = refl
same_up f g e a (suc n) = ap₂ ◌∷◌ (e a) (same_up f g e (suc a) n)

-- a store just before a seam moves the seam
set_before : (s r : List ℕ) (j b : ℕ) → j < length s → set (take (j + 1) s ++ r) j b ≡ take j s ++ (b ∷ r)
set_before s r j b h =
    rw (add-one, take-suc s j 0, append_snoc) (set_at (take j s) (get_or s j 0) r b j (length-take-le j s (omega arith)))

-- the numbers from i on, in a tape of n symbols
abbrev from : (ℕ → ℕ) → ℕ → ℕ → List ℕ
from f n i = map f (up_from i (suc n - i))

from_step : (f : ℕ → ℕ) (n j : ℕ) → j < n → from f n j ≡ f j ∷ from f n (j + 1)
from_step f n j h =
    let e : suc n - j ≡ suc (suc n - (j + 1)) = omega arith in
    ap (λ (k : ℕ). map f (up_from j k)) e ∙ ap (λ (k : ℕ). f j ∷ map f (up_from k (suc n - (j + 1)))) (sym (add-one j))

from_end_lem : (f : ℕ → ℕ) (n : ℕ) → from f n n ≡ f n ∷ []
from_end_lem f n = let e : suc n - n ≡ 1 = omega arith in ap (λ (k : ℕ). map f (up_from n k)) e

-- one place further to the front
right_step : (rows t : List ℕ) (j : ℕ) → j < length t → right_number rows t j ≡ right_entry rows (right_number rows t (j + 1)) (get_or t j 0)
right_step rows t j h = rw (add-one, drop-cons t j 0)

right_end : (rows t : List ℕ) → right_number rows t (length t) ≡ 0
right_end rows t = rw drop-length

-- the loop's invariant: the front is as it was, and from i on the numbers stand, before what was there; v is the number at i
pub record Filled (rows t s₀ s : List ℕ) (i v : ℕ) : Type 0 where
  pub within : i ≤ length t
  pub byte : v < most_sets
  pub same : length s ≡ length s₀
  pub number : v ≡ right_number rows t i
  pub filled : s ≡ take i s₀ ++ (from (right_number rows t) (length t) i ++ drop (length t + 1) s₀)

pub filled_start : (rows t s : List ℕ) → length t < length s → Filled rows t (set s (length t) 0) (set s (length t) 0) (length t) 0
filled_start rows t s h =
    record {
      within = omega arith;
      byte = omega arith;
      same = refl;
      number = sym (right_end rows t);
      filled =
          rw (from_end_lem (right_number rows t) (length t), right_end rows t, add-one)
          (split_at (set s (length t) 0) (length t) 0 (simp length-set h)
          ∙ ap (λ (x : ℕ). take (length t) (set s (length t) 0) ++ x ∷ drop (suc (length t)) (set s (length t) 0)) (get_or-set_same s (length t) 0 0 h));
    }

pub filled_turn : (rows t s₀ s : List ℕ) (i j v b : ℕ) → i ≡ j + 1 → j < length t → length t < length s₀
    → b ≡ right_entry rows v (get_or t j 0) → b < most_sets → Filled rows t s₀ s i v → Filled rows t s₀ (set s j b) j b
filled_turn rows t s₀ s i j v b p h g e k inv =
    let was : Filled rows t s₀ s (j + 1) v = subst (λ (n : ℕ). Filled rows t s₀ s n v) p inv in
    let q : b ≡ right_number rows t j = e ∙ ap (λ (n : ℕ). right_entry rows n (get_or t j 0)) was.number ∙ sym (right_step rows t j h) in
    record {
      within = omega arith;
      byte = k;
      same = simp length-set was.same;
      number = q;
      filled =
          ap (λ (l : List ℕ). set l j b) was.filled
          ∙ set_before s₀ (from (right_number rows t) (length t) (j + 1) ++ drop (length t + 1) s₀) j b (omega arith)
          ∙ rw (from_step (right_number rows t) (length t) j h, q);
    }

from_all : (rows t : List ℕ) → from (right_number rows t) (length t) 0 ≡ right_all rows t
unfolding right_all
from_all rows t = ap (λ (k : ℕ). map (right_number rows t) (up_from 0 k)) (sub-zero (suc (length t)))

length_all : (rows t : List ℕ) → length (right_all rows t) ≡ length t + 1
unfolding right_all
length_all rows t = length_up (right_number rows t) 0 (suc (length t)) ∙ sym (add-one (length t))

pub filled_end : (rows t s s' : List ℕ) (i v : ℕ) → i ≡ 0 → Filled rows t (set s (length t) 0) s' i v → s' ≡ onto (right_all rows t) s
filled_end rows t s s' i v p inv =
    let was : Filled rows t (set s (length t) 0) s' 0 v = subst (λ (n : ℕ). Filled rows t (set s (length t) 0) s' n v) p inv in
    was.filled
    ∙ ap (λ (l : List ℕ). l ++ drop (length t + 1) (set s (length t) 0)) (from_all rows t)
    ∙ ap (λ (l : List ℕ). right_all rows t ++ l) (drop-set-lt (length t + 1) s (length t) 0 (omega arith) ∙ ap (λ (k : ℕ). drop k s) (sym (length_all rows t)))
