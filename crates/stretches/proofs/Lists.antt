-- Laws of tests, of a list made number by number, and of what is kept. Assumes nothing.
use Prim.Native.Nat.{ℕ, zero, suc, ◌+◌, ◌≤◌, ◌<◌}
use mathlib.Core.List.Memᴰ
use mathlib.Core.List.{List, [], ◌∷◌, ◌++◌, map, map-append, append-nil, append_assoc, Memᴰ}
use mathlib.Core.Bool.{Bool, true, false, cond}
use mathlib.Core.Path.{◌≡◌, refl, subst, sym, ap, ap₂, ◌∙◌}
use mathlib.Core.Logic.{⊎_elim, ◌≢◌, by_cases}
use native.Mathlib.Omega.{arith}
use native.Mathlib.Decide.{ℕ_discrete, dec_lt}
use native.Mathlib.Nat.{add-zero, add-suc, suc-add, zero-add}
use borrow.Author.Tests.{lt-ltb, le-ltb, eq-eqb, ne_eqb}
use lib.Dec.{T, eqb, ltb, eqb→eq}
use Rattle.stretches.specs.Candidates.{keep}
use Rattle.stretches.specs.Account.{Line, each}
use Rattle.stretches.specs.Sentences.{taken_lines}

-- a test that is decided
pub miss {ℓ} : {A : Type ℓ} (c : Bool) (x y : A) → (T c → ⊥) → cond c x y ≡ y
miss true x y h = absurd (h tt)
miss false x y h = refl

pub hit {ℓ} : {A : Type ℓ} (c : Bool) (x y : A) → T c → cond c x y ≡ x
hit true x y h = refl
hit false x y h = absurd h

-- what holds of both sides of a test, each with what the test says
pub by_test {ℓ} : {A : Type ℓ} (P : A → Type 0) (test : Bool) (x y : A) → (test ≡ true → P x) → (test ≡ false → P y) → P (cond test x y)
by_test P true x y f g = f refl
by_test P false x y f g = g refl

-- tests of two numbers, both k further on
pub ltb_later : (k a b : ℕ) → ltb (k + a) (k + b) ≡ ltb a b
ltb_later k a b = by_cases (dec_lt a b)
    (λ h. lt-ltb (k + a) (k + b) (omega arith) ∙ sym (lt-ltb a b h))
    (λ h. le-ltb (k + a) (k + b) (omega arith) ∙ sym (le-ltb a b (omega arith)))

pub eqb_later : (k a b : ℕ) → eqb (k + a) (k + b) ≡ eqb a b
eqb_later k a b = by_cases (ℕ_discrete a b)
    (λ h. eq-eqb (k + a) (k + b) (omega arith) ∙ sym (eq-eqb a b h))
    (λ h. ne_eqb (k + a) (k + b) (λ e. h (omega arith)) ∙ sym (ne_eqb a b h))

-- number by number
pub each_split {ℓ} : {A : Type ℓ} (f : ℕ → List A) (a m n : ℕ) → each f a (m + n) ≡ each f a m ++ each f (a + m) n
each_split f a zero n = rw (zero-add, add-zero)
each_split f a (suc m) n = rw (suc-add m n, append_assoc, add-suc a m, ← (suc-add a m)) (ap (λ x. f a ++ x) (each_split f (suc a) m n))

pub each_snoc {ℓ} : {A : Type ℓ} (f : ℕ → List A) (a n : ℕ) → each f a (suc n) ≡ each f a n ++ f (a + n)
each_snoc f a zero = rw add-zero (append-nil (f a))
each_snoc f a (suc n) = rw (append_assoc, add-suc a n, ← (suc-add a n)) (ap (λ x. f a ++ x) (each_snoc f (suc a) n))

pub each_none {ℓ} : {A : Type ℓ} (f : ℕ → List A) (a n : ℕ) → ((x : ℕ) → a ≤ x → x < a + n → f x ≡ []) → each f a n ≡ []
each_none f a zero h = refl
each_none f a (suc n) h = rw (h a (omega arith) (omega arith)) (each_none f (suc a) n (λ x k l. h x (omega arith) (omega arith)))

pub each_in {ℓ} : {A : Type ℓ} (f : ℕ → List A) (x : A) (a n k : ℕ) → a ≤ k → k < a + n → Memᴰ x (f k) → Memᴰ x (each f a n)
each_in f x a zero k h g m = absurd (omega arith)
each_in {A = A} f x a (suc n) k h g m = by_cases (ℕ_discrete k a)
    (λ e. Memᴰ.append_left (each f (suc a) n) (subst (λ (y : ℕ). Memᴰ x (f y)) e m))
    (λ e. Memᴰ.append_right (f a) (each_in f x (suc a) n k (omega arith) (omega arith) m))

pub each_out {ℓ} : {A : Type ℓ} (f : ℕ → List A) (x : A) (a n : ℕ) → Memᴰ x (each f a n) → (k : ℕ) × (a ≤ k) × (k < a + n) × Memᴰ x (f k)
each_out f x a zero m = elim m [ ]
each_out f x a (suc n) m = ⊎_elim (λ z. (a, omega arith, omega arith, z))
    (λ z. let y = each_out f x (suc a) n z in let h = y.1 in let k = y.2 in (y.0, omega arith, omega arith, y.3))
    (Memᴰ.append_cases (f a) m)

pub each_same {ℓ} : {A : Type ℓ} (f g : ℕ → List A) (a n : ℕ) → ((k : ℕ) → a ≤ k → k < a + n → f k ≡ g k) → each f a n ≡ each g a n
each_same f g a zero h = refl
each_same f g a (suc n) h = ap₂ (λ x y. x ++ y) (h a (omega arith) (omega arith)) (each_same f g (suc a) n (λ k i j. h k (omega arith) (omega arith)))

pub each_later {ℓ} : {A : Type ℓ} (f : ℕ → List A) (k a n : ℕ) → each f (k + a) n ≡ each (λ (i : ℕ). f (k + i)) a n
each_later f k a zero = refl
each_later f k a (suc n) = rw (← (add-suc k a)) (ap (λ x. f (k + a) ++ x) (each_later f k (suc a) n))

pub keep_in {ℓ} : {A : Type ℓ} (c : Bool) (x y : A) → T c → x ≡ y → Memᴰ x (keep c y)
keep_in true x y t e = Memᴰ.head e
keep_in false x y t e = absurd t

pub keep_out {ℓ} : {A : Type ℓ} (c : Bool) (x y : A) → Memᴰ x (keep c y) → T c × (x ≡ y)
keep_out true x y m = (tt, Memᴰ.eq_of_singleton m)
keep_out false x y m = elim m [ ]

pub keep_not {ℓ} : {A : Type ℓ} (c : Bool) (x : A) → (T c → ⊥) → keep c x ≡ []
keep_not true x h = absurd (h tt)
keep_not false x h = refl

pub keep_yes {ℓ} : {A : Type ℓ} (c : Bool) (x : A) → T c → keep c x ≡ x ∷ []
keep_yes true x h = refl
keep_yes false x h = absurd h

pub keep_map {ℓ κ} : {A : Type ℓ} {B : Type κ} (h : A → B) (c : Bool) (x : A) → keep c (h x) ≡ map h (keep c x)
keep_map h true x = refl
keep_map h false x = refl

-- only k says anything
pub each_only {ℓ} : {A : Type ℓ} (f : ℕ → List A) (a n k : ℕ) → a ≤ k → k < a + n → ((x : ℕ) → a ≤ x → x < a + n → x ≢ k → f x ≡ []) → each f a n ≡ f k
each_only f a zero k h g z = absurd (omega arith)
each_only f a (suc n) k h g z = by_cases (ℕ_discrete a k)
    (λ e. ap (λ x. f a ++ x) (each_none f (suc a) n (λ x i j. z x (omega arith) (omega arith) (omega arith))) ∙ append-nil (f a) ∙ ap f e)
    (λ e. ap (λ x. x ++ each f (suc a) n) (z a (omega arith) (omega arith) e)
    ∙ each_only f (suc a) n k (omega arith) (omega arith) (λ x i j. z x (omega arith) (omega arith)))

pub map_each {ℓ κ} : {A : Type ℓ} {B : Type κ} (h : A → B) (f : ℕ → List A) (a n : ℕ) → map h (each f a n) ≡ each (λ (k : ℕ). map h (f k)) a n
map_each h f a zero = refl
map_each h f a (suc n) = map-append h (f a) (each f (suc a) n) ∙ ap (λ x. map h (f a) ++ x) (map_each h f (suc a) n)

-- the lines with verdict 0
taken_append : (xs ys : List Line) → taken_lines (xs ++ ys) ≡ taken_lines xs ++ taken_lines ys
taken_append [] ys = refl
taken_append (x ∷ xs) ys = go (eqb x.verdict 0) (taken_append xs ys)
  where
    go : (c : Bool) → taken_lines (xs ++ ys) ≡ taken_lines xs ++ taken_lines ys
        → cond c (x ∷ taken_lines (xs ++ ys)) (taken_lines (xs ++ ys)) ≡ cond c (x ∷ taken_lines xs) (taken_lines xs) ++ taken_lines ys
    go true e = ap (λ z. x ∷ z) e
    go false e = e

pub taken_each : (f : ℕ → List Line) (a n : ℕ) → taken_lines (each f a n) ≡ each (λ (k : ℕ). taken_lines (f k)) a n
taken_each f a zero = refl
taken_each f a (suc n) = taken_append (f a) (each f (suc a) n) ∙ ap (λ x. taken_lines (f a) ++ x) (taken_each f (suc a) n)

pub taken_not : (c : Bool) (l : Line) → (T c → l.verdict ≡ 0 → ⊥) → taken_lines (keep c l) ≡ []
taken_not true l h = miss (eqb l.verdict 0) (l ∷ []) [] (λ x. h tt (eqb→eq l.verdict 0 x))
taken_not false l h = refl
