-- Laws of `last_of`, the last number that passes a test, over a stretch of numbers. Assumes nothing.
use Prim.Native.Nat.{ℕ, zero, suc, ◌+◌, ◌≤◌, ◌<◌}
use mathlib.Core.List.{List, [], ◌∷◌}
use mathlib.Core.Bool.{Bool, true, false, cond}
use mathlib.Core.Path.{◌≡◌, refl, subst, sym, ap, ap₂, ◌∙◌}
use mathlib.Core.Logic.{◌⊎◌, inl, inr, ⊎_elim, by_cases}
use native.Mathlib.Omega.{arith}
use native.Mathlib.Decide.{ℕ_discrete}
use native.Mathlib.Nat.{add-zero, add-suc, suc-add, zero-add}
use lib.Dec.{T}
use Rattle.book.specs.Language.{up_from}
use Rattle.stretches.specs.Candidates.{last_of}
use Rattle.stretches.proofs.Lists.{miss, hit}

-- none passes
pub last_none : (p : ℕ → Bool) (a n d : ℕ) → ((x : ℕ) → a ≤ x → x < a + n → T (p x) → ⊥) → last_of p (up_from a n) d ≡ d
last_none p a zero d h = refl
last_none p a (suc n) d h =
    last_none p (suc a) n (cond (p a) a d) (λ x g k t. h x (omega arith) (omega arith) t) ∙ miss (p a) a d (λ t. h a (omega arith) (omega arith) t)

-- one number more
pub last_snoc : (p : ℕ → Bool) (a n d : ℕ) → last_of p (up_from a (suc n)) d ≡ cond (p (a + n)) (a + n) (last_of p (up_from a n) d)
last_snoc p a zero d = rw add-zero
last_snoc p a (suc n) d = rw (add-suc, ← suc-add) (last_snoc p (suc a) n (cond (p a) a d))

-- one stretch after the other
pub last_split : (p : ℕ → Bool) (a m n d : ℕ) → last_of p (up_from a (m + n)) d ≡ last_of p (up_from (a + m) n) (last_of p (up_from a m) d)
last_split p a zero n d = rw (zero-add, add-zero)
last_split p a (suc m) n d = rw (suc-add m n, add-suc a m, ← (suc-add a m)) (last_split p (suc a) m n (cond (p a) a d))

-- two tests that agree there; and one that says of each number what the other says of it k further on
pub last_same : (p q : ℕ → Bool) (a n d : ℕ) → ((x : ℕ) → a ≤ x → x < a + n → p x ≡ q x) → last_of p (up_from a n) d ≡ last_of q (up_from a n) d
last_same p q a zero d h = refl
last_same p q a (suc n) d h =
    ap (λ (c : Bool). last_of p (up_from (suc a) n) (cond c a d)) (h a (omega arith) (omega arith))
    ∙ last_same p q (suc a) n (cond (q a) a d) (λ x g k. h x (omega arith) (omega arith))

pub last_later : (p q : ℕ → Bool) (k : ℕ) → ((x : ℕ) → p (k + x) ≡ q x) → (a n d : ℕ) → last_of p (up_from (k + a) n) (k + d) ≡ k + last_of q (up_from a n) d
last_later p q k h a zero d = refl
last_later p q k h a (suc n) d =
    ap (λ (c : Bool). last_of p (up_from (suc (k + a)) n) (cond c (k + a) (k + d))) (h a)
    ∙ ap₂ (λ (x y : ℕ). last_of p (up_from x n) y) (sym (add-suc k a)) (cond_later (q a))
    ∙ last_later p q k h (suc a) n (cond (q a) a d)
  where
    cond_later : (c : Bool) → cond c (k + a) (k + d) ≡ k + cond c a d
    cond_later true = refl
    cond_later false = refl

-- within which bounds it stands
pub last_low : (p : ℕ → Bool) (lo a n d : ℕ) → lo ≤ d → lo ≤ a → lo ≤ last_of p (up_from a n) d
last_low p lo a zero d h k = h
last_low p lo a (suc n) d h k = last_low p lo (suc a) n (cond (p a) a d) (go (p a)) (omega arith)
  where
    go : (c : Bool) → lo ≤ cond c a d
    go true = k
    go false = h

pub last_high : (p : ℕ → Bool) (hi a n d : ℕ) → d ≤ hi → a + n ≤ suc hi → last_of p (up_from a n) d ≤ hi
last_high p hi a zero d h k = h
last_high p hi a (suc n) d h k = last_high p hi (suc a) n (cond (p a) a d) (go (p a)) (omega arith)
  where
    go : (c : Bool) → cond c a d ≤ hi
    go true = omega arith
    go false = h

-- it passes, if any does
pub last_passes : (p : ℕ → Bool) (xs : List ℕ) (d : ℕ) → (last_of p xs d ≡ d) ⊎ T (p (last_of p xs d))
last_passes p [] d = inl refl
last_passes p (x ∷ xs) d = ⊎_elim (λ e. go (p x) refl e) inr (last_passes p xs (cond (p x) x d))
  where
    go : (c : Bool) → p x ≡ c → last_of p xs (cond (p x) x d) ≡ cond (p x) x d → (last_of p (x ∷ xs) d ≡ d) ⊎ T (p (last_of p (x ∷ xs) d))
    go true e k = inr (subst (λ (z : ℕ). T (p z)) (sym (k ∙ ap (λ (c : Bool). cond c x d) e)) (subst T (sym e) tt))
    go false e k = inl (k ∙ ap (λ (c : Bool). cond c x d) e)

-- it is at or past each that passes
pub last_reach : (p : ℕ → Bool) (a n d x : ℕ) → a ≤ x → x < a + n → T (p x) → x ≤ last_of p (up_from a n) d
last_reach p a zero d x h k t = absurd (omega arith)
last_reach p a (suc n) d x h k t = by_cases (ℕ_discrete a x)
    (λ e. last_low p x (suc a) n (cond (p a) a d) (let z = hit (p a) a d (subst (λ (y : ℕ). T (p y)) (sym e) t) in omega arith) (omega arith))
    (λ e. last_reach p (suc a) n (cond (p a) a d) x (omega arith) (omega arith) t)
