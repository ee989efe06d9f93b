-- The greatest number of a list: no number is above it, and a loop finds it that keeps the greatest so far. Assumes nothing.
use Prim.Native.Nat.{ℕ, zero, suc, ◌+◌, max, ◌≤◌, ◌<◌}
use mathlib.Core.Path.{◌≡◌, refl, sym, ◌∙◌, ap}
use mathlib.Core.List.{List, [], ◌∷◌}
use native.Mathlib.Numerals.{add-one}
use native.Mathlib.Omega.{arith}
use lib.ListN.{length, drop, get_or, drop_of_length-le}
use lib.Seq.{drop-cons}
use Rattle.stretches.specs.Lists.{greatest}

greatest_least : (l : List ℕ) (n : ℕ) → n ≤ greatest n l
unfolding greatest
greatest_least [] n = omega arith
greatest_least (x ∷ l) n = let h = greatest_least l (max n x) in omega arith

pub greatest_all : (l : List ℕ) (n k : ℕ) → k < length l → get_or l k 0 ≤ greatest n l
unfolding greatest
greatest_all [] n k h = absurd (omega arith)
greatest_all (x ∷ l) n zero h = let g = greatest_least l (max n x) in omega arith
greatest_all (x ∷ l) n (suc k) h = greatest_all l (max n x) k (omega arith)

-- a bound of n and of each number
pub greatest_most : (l : List ℕ) (n m : ℕ) → n ≤ m → ((k : ℕ) → k < length l → get_or l k 0 ≤ m) → greatest n l ≤ m
unfolding greatest
greatest_most [] n m h f = h
greatest_most (x ∷ l) n m h f = let g = f 0 (omega arith) in greatest_most l (max n x) m (omega arith) (λ k i. f (suc k) (omega arith))

-- top is the greatest of n and the first i numbers of l
pub record Topped (n : ℕ) (l : List ℕ) (top i : ℕ) : Type 0 where
  pub within : i ≤ length l
  pub rest : greatest top (drop i l) ≡ greatest n l

pub topped_start : (n : ℕ) (l : List ℕ) → Topped n l n 0
topped_start n l = record { within = omega arith; rest = refl }

module _ (n : ℕ) (l : List ℕ) (top i : ℕ) (was : Topped n l top i) where
  module _ (inside : i < length l) (x : ℕ) (e : x ≡ get_or l i 0) where
    step : greatest (max top x) (drop (i + 1) l) ≡ greatest n l
    unfolding greatest
    step = rw (add-one, e) (ap (greatest top) (sym (drop-cons l i 0 inside)) ∙ was.rest)

    turn : (top' : ℕ) → max top x ≡ top' → Topped n l top' (i + 1)
    turn top' q = record { within = omega arith; rest = ap (λ (y : ℕ). greatest y (drop (i + 1) l)) (sym q) ∙ step }

    pub topped_more : top < x → Topped n l x (i + 1)
    topped_more h = turn x (omega arith)

    pub topped_less : x ≤ top → Topped n l top (i + 1)
    topped_less h = turn top (omega arith)

  pub topped_end : length l ≤ i → top ≡ greatest n l
  unfolding greatest
  topped_end h = ap (greatest top) (sym (drop_of_length-le l {i = i} h)) ∙ was.rest
