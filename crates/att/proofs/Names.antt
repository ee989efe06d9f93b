-- Laws of the numbers of states by first appearance, and of the states that the first pass knows.
use Prim.Native.Nat.{ℕ, suc, ◌+◌, ◌≤◌, ◌<◌}
use Rattle.std.specs.Prelude.{Option, Some, None}
use mathlib.Core.Path.{◌≡◌, refl, sym}
use mathlib.Core.List.{List, [], ◌∷◌, ◌++◌}
use mathlib.Core.Bool.{Bool, true, false, cond}
use native.Mathlib.Numerals.{add-one}
use native.Mathlib.Omega.{arith}
use native.Mathlib.Decide.{dec_lt}
use lib.ListN.{length, take, set, length-append}
use lib.Seq.{take-suc-set}
use lib.Dec.{eqb, ltb}
use Rattle.std.specs.List.{position_or_len}
use Rattle.std.specs.Option.{is_some}
use Rattle.std.proofs.lemmas.List.Recursion.{is_position_or_len}
use borrow.Author.Tests.{lt-ltb, le-ltb}
use Rattle.att.specs.Text.{idx, add}
use Rattle.att.specs.Survey.{number_in}

-- one state more
pub add_in : (S : List ℕ) (x : ℕ) → idx S x < length S → add S x ≡ S
unfolding add
add_in S x h = rw (add, lt-ltb _ _ h)

pub add_new : (S : List ℕ) (x : ℕ) → length S ≤ idx S x → add S x ≡ S ++ (x ∷ [])
unfolding add
add_new S x h = rw (add, le-ltb _ _ h)

pub add_longer : (S : List ℕ) (x : ℕ) → length S ≤ length (add S x)
add_longer S x = by_case (dec_lt (idx S x) (length S))
  where
    by_case : Dec (idx S x < length S) → length S ≤ length (add S x)
    by_case (yes h) = rw (add_in S x h) (omega arith)
    by_case (no h) = let k : length S ≤ idx S x = omega (arith, h) in rw (add_new S x k) (simp length-append (omega arith))

-- the number of a state that is known, and of one that is not
pub number_of_in : (S : List ℕ) (x : ℕ) → idx S x < length S → number_in S x ≡ Some (idx S x)
unfolding number_in
number_of_in S x h = rw (number_in, lt-ltb _ _ h)

pub number_of_new : (S : List ℕ) (x : ℕ) → length S ≤ idx S x → number_in S x ≡ None
unfolding number_in
number_of_new S x h = rw (number_in, le-ltb _ _ h)

pub number_some : (S : List ℕ) (x k : ℕ) → number_in S x ≡ Some k → (k ≡ idx S x) × (k < length S)
number_some S x k e = by_case (dec_lt (idx S x) (length S))
  where
    by_case : Dec (idx S x < length S) → (k ≡ idx S x) × (k < length S)
    by_case (yes h) = let q : k ≡ idx S x = let n = number_of_in S x h in cc in (q, omega arith)
    by_case (no h) = let n = number_of_new S x (omega (arith, h)) in let z : ◌≡◌ {A = ℕ} 0 1 = cc in let w : ⊥ = omega arith in absurd w

pub number_none : (S : List ℕ) (x : ℕ) → number_in S x ≡ None → length S ≤ idx S x
number_none S x e = by_case (dec_lt (idx S x) (length S))
  where
    by_case : Dec (idx S x < length S) → length S ≤ idx S x
    by_case (yes h) = let n = number_of_in S x h in let z : ◌≡◌ {A = ℕ} 0 1 = cc in let w : ⊥ = omega arith in absurd w
    by_case (no h) = omega (arith, h)

-- the search's answer as a test
pub number_is_some : (S : List ℕ) (x : ℕ) (r : Option ℕ) → r ≡ number_in S x → true ≡ is_some r → idx S x < length S
number_is_some S x (Some k) q e = let h = number_some S x k (sym q) in omega arith
number_is_some S x None q e = cc

pub number_is_none : (S : List ℕ) (x : ℕ) (r : Option ℕ) → r ≡ number_in S x → false ≡ is_some r → length S ≤ idx S x
number_is_none S x (Some k) q e = cc
number_is_none S x None q e = number_none S x (sym q)

-- a state more in the list
pub add_length : (S : List ℕ) (x : ℕ) → length S ≤ idx S x → length (add S x) ≡ length S + 1
add_length S x h = rw (add_new S x h) (simp length-append)

pub add_set : (list : List ℕ) (n x : ℕ) → n < length list → length (take n list) ≤ idx (take n list) x → take (n + 1) (set list n x) ≡ add (take n list) x
add_set list n x h k = rw (add-one, add_new (take n list) x k) (take-suc-set list n x h)

-- as the library finds it
idx_position : (x : ℕ) (S : List ℕ) → idx S x ≡ position_or_len (λ y. eqb y x) S
unfolding idx
idx_position x = is_position_or_len (λ S. idx S x) (λ y. eqb y x) refl (λ y S. by_test (eqb y x) y S)
  where
    by_test : (t : Bool) (y : ℕ) (S : List ℕ) → ◌≡◌ {A = ℕ} (elim t [ true ↦ 0 | false ↦ suc (idx S x) ]) (cond t 0 (1 + idx S x))
    by_test true y S = refl
    by_test false y S = omega arith

pub number_found : (S : List ℕ) (x : ℕ) (r : Option ℕ)
    → r ≡ cond (ltb (position_or_len (λ y. eqb y x) S) (length S)) (Some (position_or_len (λ y. eqb y x) S)) None → r ≡ number_in S x
unfolding number_in
number_found S x r e = rw (number_in, idx_position x S) e
