-- Laws of `first_of`, the first number that passes a test, over a stretch of numbers. Assumes nothing.
use Prim.Native.Nat.{ℕ, zero, suc, ◌+◌, ◌≤◌, ◌<◌}
use mathlib.Core.Bool.{Bool, true, false, cond}
use mathlib.Core.Logic.{◌≢◌, by_cases}
use mathlib.Core.Path.{◌≡◌, refl, subst, sym, ap, ◌∙◌}
use native.Mathlib.Omega.{arith}
use native.Mathlib.Decide.{ℕ_discrete}
use lib.Dec.{T}
use Rattle.book.specs.Language.{any, up_from}
use Rattle.stretches.specs.Candidates.{first_of}

-- none passes
pub first_none : (p : ℕ → Bool) (a n d : ℕ) → ((x : ℕ) → p x ≡ false) → first_of p (up_from a n) d ≡ d
first_none p a zero d h = refl
first_none p a (suc n) d h = ap (λ (c : Bool). cond c a (first_of p (up_from (suc a) n) d)) (h a) ∙ first_none p (suc a) n d h

-- some number passes, and it does not matter which number stands for none
pub first_hit : (p : ℕ → Bool) (a n d e : ℕ) → first_of p (up_from a n) d ≢ d
    → (any p (up_from a n) ≡ true) × (first_of p (up_from a n) d ≡ first_of p (up_from a n) e)
first_hit p a zero d e h = absurd (h refl)
first_hit p a (suc n) d e h = go (p a) refl (first_hit p (suc a) n d e) h
  where
    go : (c : Bool) → p a ≡ c
        → (first_of p (up_from (suc a) n) d ≢ d → (any p (up_from (suc a) n) ≡ true) × (first_of p (up_from (suc a) n) d ≡ first_of p (up_from (suc a) n) e))
        → first_of p (up_from a (suc n)) d ≢ d → (any p (up_from a (suc n)) ≡ true) × (first_of p (up_from a (suc n)) d ≡ first_of p (up_from a (suc n)) e)
    go true q f h = rw q (refl, refl)
    go false q f h = rw q (f (rw q at h))

-- a number past them all stands for none, and none passes
pub first_miss : (p : ℕ → Bool) (a n d : ℕ) → a + n ≤ d → first_of p (up_from a n) d ≡ d → any p (up_from a n) ≡ false
first_miss p a zero d k h = refl
first_miss p a (suc n) d k h = go (p a) refl (first_miss p (suc a) n d (omega arith)) h
  where
    go : (c : Bool) → p a ≡ c → (first_of p (up_from (suc a) n) d ≡ d → any p (up_from (suc a) n) ≡ false) → first_of p (up_from a (suc n)) d ≡ d
        → any p (up_from a (suc n)) ≡ false
    go true q f h = let z : a ≡ d = rw q at h in absurd (omega arith)
    go false q f h = rw q (f (rw q at h))

-- below m, where they all and what stands for none are
pub first_below : (p : ℕ → Bool) (a n d m : ℕ) → a + n ≤ m → d < m → first_of p (up_from a n) d < m
first_below p a zero d m k h = h
first_below p a (suc n) d m k h = go (p a) (first_below p (suc a) n d m (omega arith) h)
  where
    go : (c : Bool) → first_of p (up_from (suc a) n) d < m → cond c a (first_of p (up_from (suc a) n) d) < m
    go true f = omega arith
    go false f = f

-- x passes, and is at or before each that passes
pub record FirstPassing (p : ℕ → Bool) (a n x : ℕ) : Type 0 where
  pub low : a ≤ x
  pub high : x < a + n
  pub passes : T (p x)
  pub least : (y : ℕ) → a ≤ y → T (p y) → x ≤ y

pub first_is : (p : ℕ → Bool) (a n d y : ℕ) → a ≤ y → y < a + n → T (p y) → FirstPassing p a n (first_of p (up_from a n) d)
first_is p a zero d y h k t = absurd (omega arith)
first_is p a (suc n) d y h k t = go (p a) refl (λ g. first_is p (suc a) n d y g (omega arith) t)
  where
    go : (c : Bool) → p a ≡ c → (suc a ≤ y → FirstPassing p (suc a) n (first_of p (up_from (suc a) n) d))
        → FirstPassing p a (suc n) (cond c a (first_of p (up_from (suc a) n) d))
    go true e f = record { low = omega arith; high = omega arith; passes = subst T (sym e) tt; least = λ z i u. i }
    go false e f =
        let w : (z : ℕ) → a ≤ z → T (p z) → suc a ≤ z = λ z i u. by_cases (ℕ_discrete z a) (λ g. absurd (subst T (ap p g ∙ e) u)) (λ g. omega arith) in
        let r = f (w y h t) in
        let l = r.low in
        let m = r.high in
        record { low = omega arith; high = omega arith; passes = r.passes; least = λ z i u. r.least z (w z i u) u }

-- where some number passes it does not matter which number stands for none
pub first_some : (p : ℕ → Bool) (a n d e y : ℕ) → a ≤ y → y < a + n → T (p y) → first_of p (up_from a n) d ≡ first_of p (up_from a n) e
first_some p a n d e y h k t =
    let x = first_is p a n d y h k t in
    let z = first_is p a n e y h k t in
    let l = x.least (first_of p (up_from a n) e) z.low z.passes in
    let m = z.least (first_of p (up_from a n) d) x.low x.passes in
    omega arith
