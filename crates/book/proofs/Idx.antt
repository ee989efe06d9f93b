-- Laws of idx: the first place of a number in a list, or the list's length. Assumes nothing.
use Prim.Native.Nat.{ℕ, zero, suc, ◌+◌, ◌≤◌, ◌<◌, zero-le, suc-le-suc}
use mathlib.Core.Path.{◌≡◌, refl, sym, ap, ◌∙◌}
use mathlib.Core.List.{List, [], ◌∷◌, ◌++◌}
use native.Mathlib.Omega.{arith}
use native.Mathlib.Nat.{le_of_eq}
use native.Mathlib.Decide.{ℕ_discrete}
use native.Mathlib.Numerals.{add-one}
use lib.ListN.{length, get_or, take, drop, drop_of_length-le}
use lib.Seq.{drop-cons, length-take-le, get_or-take}
use borrow.Author.Tests.{eq-eqb, ne_eqb}
use Rattle.book.specs.Format.{idx}

pub idx_same : (y : ℕ) (S : List ℕ) (x : ℕ) → y ≡ x → idx (y ∷ S) x ≡ 0
unfolding idx
idx_same y S x e = rw (eq-eqb y x e, idx)

pub idx_other : (y : ℕ) (S : List ℕ) (x : ℕ) → (y ≡ x → ⊥) → idx (y ∷ S) x ≡ suc (idx S x)
unfolding idx
idx_other y S x e = rw (ne_eqb y x e, idx)

pub idx_nil : (x : ℕ) → idx [] x ≡ 0
unfolding idx
idx_nil x = refl

pub by_eq : (P : Type 0) (a b : ℕ) → (a ≡ b → P) → ((a ≡ b → ⊥) → P) → Dec (a ≡ b) → P
by_eq P a b y n (yes e) = y e
by_eq P a b y n (no e) = n e

pub idx_le : (S : List ℕ) (x : ℕ) → idx S x ≤ length S
idx_le [] x = rw (idx_nil x) zero-le
idx_le (y ∷ S) x =
    by_eq _ y x (λ e. rw (idx_same y S x e) zero-le)
    (λ ne. rw (idx_other y S x ne) (suc-le-suc (idx_le S x))) (ℕ_discrete y x)

-- x is there: its number finds it, and stays the same as the list grows at its end
pub idx_at : (S : List ℕ) (x : ℕ) → idx S x < length S → get_or S (idx S x) 0 ≡ x
idx_at [] x h = let z : ⊥ = omega arith in absurd z
idx_at (y ∷ S) x h =
    by_eq _ y x (λ e. rw (idx_same y S x e) e)
    (λ ne. rw (idx_other y S x ne) (idx_at S x (omega (arith, idx_other y S x ne)))) (ℕ_discrete y x)

pub idx_append : (S T : List ℕ) (x : ℕ) → idx S x < length S → idx (S ++ T) x ≡ idx S x
idx_append [] T x h = let z : ⊥ = omega arith in absurd z
idx_append (y ∷ S) T x h =
    by_eq _ y x (λ e. idx_same y (S ++ T) x e ∙ sym (idx_same y S x e))
    (λ ne. idx_other y (S ++ T) x ne ∙ ap suc (idx_append S T x (omega (arith, idx_other y S x ne))) ∙ sym (idx_other y S x ne)) (ℕ_discrete y x)

-- x is not there: at the end it gets the next number
pub idx_snoc : (S : List ℕ) (x : ℕ) → idx S x ≡ length S → idx (S ++ (x ∷ [])) x ≡ length S
idx_snoc [] x h = idx_same x [] x refl
idx_snoc (y ∷ S) x h =
    by_eq _ y x (λ e. let z : ⊥ = omega (arith, idx_same y S x e) in absurd z)
    (λ ne. idx_other y (S ++ (x ∷ [])) x ne ∙ ap suc (idx_snoc S x (omega (arith, idx_other y S x ne)))) (ℕ_discrete y x)

-- whatever stands at place i has a number of at most i
pub idx_in : (S : List ℕ) (x i : ℕ) → i < length S → get_or S i 0 ≡ x → idx S x ≤ i
idx_in [] x i h e = let z : ⊥ = omega arith in absurd z
idx_in (y ∷ S) x zero h e = rw (idx_same y S x e) zero-le
idx_in (y ∷ S) x (suc i) h e =
    by_eq _ y x (λ q. rw (idx_same y S x q) zero-le)
    (λ ne. rw (idx_other y S x ne) (suc-le-suc (idx_in S x i (omega arith) e))) (ℕ_discrete y x)

-- the search for x among the first n elements of L, at place i: it stops there, goes on, or is at its end
module _ (L : List ℕ) (n x : ℕ) (fits : n ≤ length L) where
  pub search_stop : (i : ℕ) → i < n → get_or L i 0 ≡ x → idx (drop i (take n L)) x ≡ 0
  search_stop i h e =
      let l : length (take n L) ≡ n = length-take-le n L fits in
      rw (drop-cons (take n L) i 0 (omega arith)) (idx_same _ _ x (get_or-take n L i 0 h ∙ e))

  pub search_on : (i : ℕ) → i < n → (get_or L i 0 ≡ x → ⊥) → idx (drop i (take n L)) x ≡ suc (idx (drop (i + 1) (take n L)) x)
  search_on i h e =
      let l : length (take n L) ≡ n = length-take-le n L fits in
      rw (add-one, drop-cons (take n L) i 0 (omega arith)) (idx_other _ _ x (λ q. e (sym (get_or-take n L i 0 h) ∙ q)))

  pub search_end : (i : ℕ) → i ≡ n → idx (drop i (take n L)) x ≡ 0
  search_end i e = rw (drop_of_length-le (take n L) (le_of_eq (length-take-le n L fits ∙ sym e))) (idx_nil x)
