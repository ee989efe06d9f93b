-- Document 01's sentence over any candidates: the smallest start, then again and again the smallest start after the stretch just taken. Assumes nothing.
use Prim.Native.Nat.{ℕ, zero, suc, ◌≤◌, ◌<◌}
use mathlib.Core.Path.{◌≡◌, subst, ap}
use mathlib.Core.Logic.{◌⊎◌, inl, inr, ⊎_elim, ◌≢◌, by_cases}
use native.Mathlib.Omega.{arith}
use native.Mathlib.Decide.{ℕ_discrete, dec_le, dec_lt}
use Rattle.stretches.proofs.Greedy.{GreedyWalk, At, at_decide}

-- i is the smallest candidate start that P allows
pub record Least (K : ℕ → ℕ → Type 0) (P : ℕ → Type 0) (i : ℕ) : Type 0 where
  pub allowed : P i
  pub least : (k l : ℕ) → P k → K k l → i ≤ k

-- the longest candidate from i ends at j
pub record Farthest (K : ℕ → ℕ → Type 0) (i j : ℕ) : Type 0 where
  pub cand : K i j
  pub longest : (k : ℕ) → K i k → k ≤ j

-- the sentence takes the stretch from i to j among the candidates K
pub data TakenAmong (K : ℕ → ℕ → Type 0) : ℕ → ℕ → Type 0 where
  first : {i j : ℕ} → Least K (λ (k : ℕ). Unit {0}) i → Farthest K i j → TakenAmong K i j
  next : {i j k l : ℕ} → TakenAmong K i j → Least K (λ (x : ℕ). (j ≤ x) × (x ≢ i)) k → Farthest K k l → TakenAmong K k l

module _ {K : ℕ → ℕ → Type 0} (W : GreedyWalk K) where
  far_eq : (i j : ℕ) → Farthest K i j → j ≡ W.far i
  far_eq i j f = let g = W.long i j f.cand in let h = f.longest (W.far i) (W.best i j f.cand) in omega arith

  far_in : (i : ℕ) → At W i → Farthest K i (W.far i)
  far_in i a = record { cand = a.cand; longest = λ k x. W.long i k x }

  pub among_out : {i j : ℕ} → TakenAmong K i j → At W i × (j ≡ W.far i)
  among_out {i} {j} (first m f) = (
    record {
      free = ⊎_elim (λ g. g) (λ h. let l = m.least h.0 (W.far h.0) tt h.2 in let g = h.3 in absurd (omega arith)) (W.around i);
      cand = W.best i j f.cand;
    },
    far_eq i j f,
  )
  among_out (next {i = i} {j = j} {k = k} {l = l} x m f) = go (among_out x)
    where
      go : At W i × (j ≡ W.far i) → At W k × (l ≡ W.far k)
      go y = (record { free = ⊎_elim (λ g. g) (λ h. absurd (clash h)) (W.around k); cand = W.best k l f.cand }, far_eq k l f)
        where
          clash : (s : ℕ) × W.Free s × K s (W.far s) × (s < k) × (k < W.far s) → ⊥
          clash h =
              let s = h.0 in
              let u = W.up i (W.far i) y.0.cand in
              let p = m.allowed.0 in
              let q = m.allowed.1 in
              let a = h.3 in
              let b = h.4 in
              let e = y.1 in
              by_cases (ℕ_discrete s i) (λ g. let z = ap W.far g in omega arith)
              (λ g. by_cases (dec_lt s i) (λ d. W.apart s i h.1 d (omega arith) y.0.free)
              (λ d. by_cases (dec_lt s j) (λ c. W.apart i s y.0.free (omega arith) (omega arith) h.1)
              (λ c. let z = m.least s (W.far s) (omega arith, g) h.2 in omega arith)))

  -- the taken start before i
  before : (i : ℕ) → ((x : ℕ) → x < i → At W x → ⊥) ⊎ ((s : ℕ) × At W s × (s < i) × ((x : ℕ) → s < x → x < i → At W x → ⊥))
  before zero = inl (λ x h a. omega arith)
  before (suc i) = go (at_decide W i) (before i)
    where
      go : Dec (At W i) → ((x : ℕ) → x < i → At W x → ⊥) ⊎ ((s : ℕ) × At W s × (s < i) × ((x : ℕ) → s < x → x < i → At W x → ⊥))
          → ((x : ℕ) → x < suc i → At W x → ⊥) ⊎ ((s : ℕ) × At W s × (s < suc i) × ((x : ℕ) → s < x → x < suc i → At W x → ⊥))
      go (yes a) d = inr (i, a, omega arith, λ x h k z. omega arith)
      go (no n) (inl d) = inl (λ x h a. by_cases (ℕ_discrete x i) (λ e. n (subst (At W) e a)) (λ e. d x (omega arith) a))
      go (no n) (inr d) =
          let l = d.2 in inr (d.0, d.1, omega arith, λ x h k a. by_cases (ℕ_discrete x i) (λ e. n (subst (At W) e a)) (λ e. d.3 x h (omega arith) a))

  least_first : (i : ℕ) → ((x : ℕ) → x < i → At W x → ⊥) → (k l : ℕ) → K k l → i ≤ k
  least_first i n k l x = by_cases (dec_le i k) (λ g. g) (λ g. absurd (⊎_elim
      (λ f. n k (omega arith) (record { free = f; cand = W.best k l x }))
      (λ h. n h.0 (let a = h.3 in omega arith) (record { free = h.1; cand = h.2 }))
      (W.around k)))

  least_next : (s i : ℕ) → At W s → ((x : ℕ) → s < x → x < i → At W x → ⊥) → (k l : ℕ) → W.far s ≤ k → k ≢ s → K k l → i ≤ k
  least_next s i a n k l p q x = by_cases (dec_le i k) (λ g. g) (λ g. absurd (⊎_elim
      (λ f. n k (let u = W.up s (W.far s) a.cand in omega arith) (omega arith) (record { free = f; cand = W.best k l x }))
      (λ h. let u = W.up s (W.far s) a.cand in
      let v = h.3 in
      let w = h.4 in
      by_cases (ℕ_discrete h.0 s) (λ e. let z = ap W.far e in omega arith)
      (λ e. by_cases (dec_lt s h.0) (λ d. n h.0 d (omega arith) (record { free = h.1; cand = h.2 }))
      (λ d. W.apart h.0 s h.1 (omega arith) (omega arith) a.free)))
      (W.around k)))

  among_below : (m i : ℕ) → i < m → At W i → TakenAmong K i (W.far i)
  among_below zero i h a = absurd (omega arith)
  among_below (suc m) i h a = ⊎_elim
      (λ n. first (record { allowed = tt; least = λ k l p x. least_first i n k l x }) (far_in i a))
      (λ z. let l = z.2 in
      let f : W.far z.0 ≤ i = by_cases (dec_le (W.far z.0) i) (λ g. g) (λ g. absurd (W.apart z.0 i z.1.free l (omega arith) a.free)) in
      next (among_below m z.0 (omega arith) z.1)
      (record { allowed = (f, omega arith); least = λ k j p x. least_next z.0 i z.1 z.3 k j p.0 p.1 x }) (far_in i a))
      (before i)

  pub among_in : (i : ℕ) → At W i → TakenAmong K i (W.far i)
  among_in i a = among_below (suc i) i (omega arith) a
