-- Laws of the tests: to a witness and back. Assumes nothing.
use Prim.Native.Nat.{ℕ, zero, suc, ◌+◌, ◌≤◌, ◌<◌}
use mathlib.Core.List.{List, [], ◌∷◌, ◌++◌, Memᴰ}
use mathlib.Core.Bool.{Bool, true, false, ◌&&◌, ◌||◌, false≢true}
use mathlib.Core.Path.{◌≡◌, refl, sym, subst}
use mathlib.Core.Logic.{◌↔◌, ◌⊎◌, inl, inr, ⊎_elim}
use native.Mathlib.Omega.{arith}
use native.Mathlib.Decide.{ℕ_discrete}
use lib.Dec.{T}
use Rattle.book.specs.Language.{any, up_from, some_end, some_front}

pub and_both : (a b : Bool) → T a → T b → T (a && b)
and_both true b p q = q
and_both false b p q = p

pub and_left : (a b : Bool) → T (a && b) → T a
and_left true b t = tt
and_left false b t = t

pub and_right : (a b : Bool) → T (a && b) → T b
and_right true b t = t
and_right false b t = absurd t

pub or_cases : (a b : Bool) → T (a || b) → T a ⊎ T b
or_cases true b t = inl tt
or_cases false b t = inr t

pub or_left : (a b : Bool) → T a → T (a || b)
or_left true b t = tt
or_left false b t = absurd t

pub or_right : (a b : Bool) → T b → T (a || b)
or_right true b t = tt
or_right false b t = t

pub or_none : (a b : Bool) → (a || b) ≡ false → (a ≡ false) × (b ≡ false)
or_none true b e = absurd (false≢true (sym e))
or_none false b e = (refl, e)

-- two tests that pass together are equal
pub same_test : (a b : Bool) → T a ↔ T b → a ≡ b
same_test true true e = refl
same_test true false e = absurd (e.0 tt)
same_test false true e = absurd (e.1 tt)
same_test false false e = refl

-- a word cut in two
pub data Cut : List ℕ → List ℕ → List ℕ → Type 0 where
  nil : {v : List ℕ} → Cut [] v v
  cons : {a : ℕ} {u v w : List ℕ} → Cut u v w → Cut (a ∷ u) v (a ∷ w)

pub cut_of : (u v : List ℕ) → Cut u v (u ++ v)
cut_of [] v = nil
cut_of (a ∷ u) v = cons (cut_of u v)

pub cut_eq : {u v w : List ℕ} → Cut u v w → w ≡ u ++ v
cut_eq nil = refl
cut_eq (cons {a = a} c) = λ i. a ∷ cut_eq c i

-- 1. any
pub any_in {ℓ} : {A : Type ℓ} (f : A → Bool) {x : A} {xs : List A} → Memᴰ x xs → T (f x) → T (any f xs)
any_in f {x} {xs = y ∷ ys} (Memᴰ.head e) t = or_left (f y) (any f ys) (subst (λ (z : _). T (f z)) e t)
any_in f {xs = []} m t = elim m [ ]
any_in f {xs = y ∷ ys} (Memᴰ.tail m) t = or_right (f y) (any f ys) (any_in f m t)

pub any_out {ℓ} : {A : Type ℓ} (f : A → Bool) (xs : List A) → T (any f xs) → (x : A) × Memᴰ x xs × T (f x)
any_out f [] t = absurd t
any_out f (x ∷ xs) t =
    ⊎_elim
    (λ h. (x, Memᴰ.head refl, h))
    (λ h. let z = any_out f xs h in (z.0, Memᴰ.tail z.1, z.2))
    (or_cases (f x) (any f xs) t)

pub up_in : (a n x : ℕ) → a ≤ x → x < a + n → Memᴰ x (up_from a n)
up_in a zero x h k = absurd (omega arith)
up_in a (suc n) x h k = go (ℕ_discrete x a) (λ g. up_in (suc a) n x g (omega arith))
  where
    go : Dec (x ≡ a) → (suc a ≤ x → Memᴰ x (up_from (suc a) n)) → Memᴰ x (up_from a (suc n))
    go (yes e) f = Memᴰ.head e
    go (no e) f = Memᴰ.tail (f (omega arith))

pub up_out : (a n x : ℕ) → Memᴰ x (up_from a n) → (a ≤ x) × (x < a + n)
up_out a zero x m = elim m [ ]
up_out a (suc n) x (Memᴰ.head e) = omega arith
up_out a (suc n) x (Memᴰ.tail m) = let h = up_out (suc a) n x m in omega arith

-- the words at an end, at the front
pub end_in_lem : (f : List ℕ → Bool) {u v w : List ℕ} → Cut u v w → T (f v) → T (some_end f w)
end_in_lem f {w = []} nil t = t
end_in_lem f {w = a ∷ w} nil t = or_left (f (a ∷ w)) (some_end f w) t
end_in_lem f (cons {a = a} {w = w} c) t = or_right (f (a ∷ w)) (some_end f w) (end_in_lem f c t)

pub end_out : (f : List ℕ → Bool) (w : List ℕ) → T (some_end f w) → (u v : List ℕ) × Cut u v w × T (f v)
end_out f [] t = ([], [], nil, t)
end_out f (a ∷ w) t =
    ⊎_elim
    (λ h. ([], a ∷ w, nil, h))
    (λ h. let z = end_out f w h in (a ∷ z.0, z.1, cons z.2, z.3))
    (or_cases (f (a ∷ w)) (some_end f w) t)

pub front_in : (f : List ℕ → Bool) {u v w : List ℕ} → Cut u v w → T (f u) → T (some_front f w)
front_in f {w = []} nil t = t
front_in f {w = a ∷ w} nil t = or_left (f []) (some_front (λ (u : List ℕ). f (a ∷ u)) w) t
front_in f (cons {a = a} {w = w} c) t = or_right (f []) (some_front (λ (u : List ℕ). f (a ∷ u)) w) (front_in (λ (u : List ℕ). f (a ∷ u)) c t)

pub front_out : (f : List ℕ → Bool) (w : List ℕ) → T (some_front f w) → (u v : List ℕ) × Cut u v w × T (f u)
front_out f [] t = ([], [], nil, t)
front_out f (a ∷ w) t =
    ⊎_elim
    (λ h. ([], a ∷ w, nil, h))
    (λ h. let z = front_out (λ (u : List ℕ). f (a ∷ u)) w h in (a ∷ z.0, z.1, cons z.2, z.3))
    (or_cases (f []) (some_front (λ (u : List ℕ). f (a ∷ u)) w) t)

-- over a stretch of numbers
pub any_up : (f : ℕ → Bool) (a n : ℕ) → T (any f (up_from a n)) ↔ ((x : ℕ) × (a ≤ x) × (x < a + n) × T (f x))
any_up f a n = (
  λ t. let z = any_out f (up_from a n) t in let h = up_out a n z.0 z.1 in (z.0, h.0, h.1, z.2),
  λ z. any_in f (up_in a n z.0 z.1 z.2) z.3,
)
