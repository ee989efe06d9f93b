-- Laws of `any`: of two tests, of two lists, of a test that fails, of one number alone. Assumes nothing.
use Prim.Native.Nat.{ℕ, zero, suc, ◌+◌, ◌≤◌, ◌<◌}
use mathlib.Core.Path.{◌≡◌, refl, ap, sym, ◌∙◌}
use mathlib.Core.List.{List, [], ◌∷◌, ◌++◌}
use mathlib.Core.Bool.{Bool, true, false, ◌&&◌, ◌||◌}
use mathlib.Core.Bool as B
use native.Mathlib.Omega.{arith}
use native.Mathlib.Decide.{ℕ_discrete}
use lib.ListN.{length, get_or}
use Rattle.book.specs.Language.{any, up_from}

or_four : (a b c d : Bool) → ((a || b) || (c || d)) ≡ ((a || c) || (b || d))
or_four true b c d = refl
or_four false true true d = refl
or_four false true false d = refl
or_four false false c d = refl

and_or : (a b c : Bool) → (a && (b || c)) ≡ ((a && b) || (a && c))
and_or true b c = refl
and_or false b c = refl

and_swap : (a b c : Bool) → (a && (b && c)) ≡ (b && (a && c))
and_swap true true c = refl
and_swap true false c = refl
and_swap false true c = refl
and_swap false false c = refl

module _ {A : Type 0} where
  pub any_ext : (f g : A → Bool) → ((x : A) → f x ≡ g x) → (l : List A) → any f l ≡ any g l
  any_ext f g h [] = refl
  any_ext f g h (x ∷ l) = rw (h x, any_ext f g h l)

  pub any_append : (f : A → Bool) (l m : List A) → any f (l ++ m) ≡ (any f l || any f m)
  any_append f [] m = refl
  any_append f (x ∷ l) m = rw (any_append f l m) (sym (B.or_assoc (f x) (any f l) (any f m)))

  pub any_none : (f : A → Bool) → ((x : A) → f x ≡ false) → (l : List A) → any f l ≡ false
  any_none f h [] = refl
  any_none f h (x ∷ l) = rw (h x, any_none f h l)

  -- place by place
  pub any_each : (f : A → Bool) (d : A) (l : List A) → ((j : ℕ) → j < length l → f (get_or l j d) ≡ false) → any f l ≡ false
  any_each f d [] h = refl
  any_each f d (x ∷ l) h = rw (h 0 (omega arith), any_each f d l (λ j k. h (suc j) (omega arith)))

  pub any_same : (f g : A → Bool) (d : A) (l : List A) → ((j : ℕ) → j < length l → f (get_or l j d) ≡ g (get_or l j d)) → any f l ≡ any g l
  any_same f g d [] h = refl
  any_same f g d (x ∷ l) h = rw (h 0 (omega arith), any_same f g d l (λ j k. h (suc j) (omega arith)))

  any_or : (f g : A → Bool) (l : List A) → any (λ (x : A). f x || g x) l ≡ (any f l || any g l)
  any_or f g [] = refl
  any_or f g (x ∷ l) = rw (any_or f g l) (or_four (f x) (g x) (any f l) (any g l))

  any_and : (c : Bool) (f : A → Bool) (l : List A) → any (λ (x : A). c && f x) l ≡ (c && any f l)
  any_and c f [] = sym (B.and-false c)
  any_and c f (x ∷ l) = rw (any_and c f l) (sym (and_or c (f x) (any f l)))

  -- where another test fails wherever f holds
  pub any_apart : (f g : A → Bool) → ((x : A) → g x ≡ false → f x ≡ false) → (l : List A) → any g l ≡ false → any f l ≡ false
  any_apart f g h [] e = refl
  any_apart f g h (x ∷ l) e = by_head (g x) refl e (λ q. any_apart f g h l q)
    where
      by_head : (t : Bool) → g x ≡ t → (t || any g l) ≡ false → (any g l ≡ false → any f l ≡ false) → (f x || any f l) ≡ false
      by_head true q e k = let z : ◌≡◌ {A = Bool} true false = e in cc
      by_head false q e k = rw (h x q, k e)

module _ {A C : Type 0} where
  pub any_swap : (h : C → Bool) (f : A → Bool) (g : A → C → Bool) (xs : List A) (qs : List C)
      → any (λ (q : C). h q && any (λ (x : A). f x && g x q) xs) qs ≡ any (λ (x : A). f x && any (λ (q : C). h q && g x q) qs) xs
  any_swap h f g [] qs = any_none (λ (q : C). h q && false) (λ q. B.and-false (h q)) qs
  any_swap h f g (x ∷ xs) qs =
      any_ext (λ (q : C). h q && ((f x && g x q) || any (λ (y : A). f y && g y q) xs))
      (λ (q : C). (f x && (h q && g x q)) || (h q && any (λ (y : A). f y && g y q) xs))
      (λ q. and_or (h q) (f x && g x q) (any (λ (y : A). f y && g y q) xs)
      ∙ ap (λ (t : Bool). t || (h q && any (λ (y : A). f y && g y q) xs)) (and_swap (h q) (f x) (g x q))) qs
      ∙ any_or (λ (q : C). f x && (h q && g x q)) (λ (q : C). h q && any (λ (y : A). f y && g y q) xs) qs
      ∙ ap (λ (t : Bool). t || any (λ (q : C). h q && any (λ (y : A). f y && g y q) xs) qs) (any_and (f x) (λ (q : C). h q && g x q) qs)
      ∙ ap (λ (t : Bool). (f x && any (λ (q : C). h q && g x q) qs) || t) (any_swap h f g xs qs)

-- one number alone passes
pub any_one : (f : ℕ → Bool) (i : ℕ) → ((j : ℕ) → (j ≡ i → ⊥) → f j ≡ false) → (a n : ℕ) → a ≤ i → i < a + n → any f (up_from a n) ≡ f i
any_one f i h a zero p q = let w : ⊥ = omega arith in absurd w
any_one f i h a (suc n) p q = by_case (ℕ_discrete a i) (λ l. any_one f i h (suc a) n l (omega arith))
  where
    past : (m d : ℕ) → i < d → any f (up_from d m) ≡ false
    past zero d l = refl
    past (suc m) d l = rw (h d (λ e. (let w : ⊥ = omega arith in w)), past m (suc d) (omega arith))

    by_case : Dec (a ≡ i) → (suc a ≤ i → any f (up_from (suc a) n) ≡ f i) → (f a || any f (up_from (suc a) n)) ≡ f i
    by_case (yes e) g = rw (past n (suc a) (omega arith), B.or-false (f a)) (ap f e)
    by_case (no e) g = rw (h a e) (g (omega (arith, e)))
