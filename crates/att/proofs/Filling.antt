-- Writing at the end of what is written, and into a state's record.
use Prim.Native.Nat.{max, ℕ, zero, suc, ◌+◌, ◌-◌, ◌*◌, ◌≤◌}
use mathlib.Core.Path.{◌≡◌, refl, ap, sym, subst, ◌∙◌}
use mathlib.Core.List.{List, [], ◌∷◌, ◌++◌}
use native.Mathlib.Numerals.{add-one}
use native.Mathlib.Omega.{arith}
use lib.ListN.{length, take, drop, set, replicate, length-append, length-drop, length-replicate}
use lib.Seq.{sets, sets-eq, take-append_seam, drop-append-add, drop-drop}
use Rattle.att.specs.Text.{state_records}
use Rattle.att.specs.Survey.{fresh, put, Filled}

pub filled_length : (out W o : List ℕ) → Filled out W o → length out ≡ length o
filled_length out W o p = let r = p.room in ap length p.is ∙ simp (length-append, length-drop) (omega arith)

pub fill_put : (out W o vs : List ℕ) (n : ℕ) → Filled out W o → n ≡ length W → n + length vs ≤ length o → Filled (sets out n vs) (W ++ vs) o
fill_put out W o vs n p e h =
    let l = filled_length out W o p in
    let r : n + length vs ≤ length out = omega arith in
    let t : take n out ≡ W = rw (p.is, e) (take-append_seam W (drop (length W) o)) in
    let d : drop (n + length vs) out ≡ drop (length W + length vs) o = rw (p.is, e) (drop-append-add W (drop (length W) o) (length vs)
    ∙ drop-drop (length vs) (length W) o) in
    let w = length-append W vs in
    record {
      room = omega arith;
      is = sets-eq vs out n r ∙ rw (t, d, w);
    }

pub fill_none : (o : List ℕ) → Filled o [] o
fill_none o = record { room = omega arith; is = refl }

pub records_length : (part : ℕ) (fs : List ℕ) → length (state_records part fs) ≡ 3 * length fs
unfolding state_records
records_length part [] = refl
records_length part (f ∷ fs) = let h = records_length part fs in omega arith

records_snoc : (part : ℕ) (fs : List ℕ) (f : ℕ) → state_records part (fs ++ (f ∷ [])) ≡ state_records part fs ++ (2 ∷ part ∷ f ∷ [])
unfolding state_records
records_snoc part [] f = refl
records_snoc part (g ∷ fs) f = ap (λ (l : List ℕ). 2 ∷ part ∷ g ∷ l) (records_snoc part fs f)

replicate_snoc : (m : ℕ) → ◌++◌ {A = ℕ} (replicate m 0) (0 ∷ []) ≡ replicate (suc m) 0
replicate_snoc zero = refl
replicate_snoc (suc m) = ap (λ (l : List ℕ). 0 ∷ l) (replicate_snoc m)

-- one state's record
states_one : (out : List ℕ) (part f : ℕ) → 3 ≤ length out → Filled (sets out 0 (2 ∷ part ∷ f ∷ [])) (state_records part (f ∷ [])) out
unfolding state_records
states_one out part f h = fill_put out [] out (2 ∷ part ∷ f ∷ []) 0 (fill_none out) refl (omega arith)

module _ (out o : List ℕ) (part m : ℕ) (p : Filled out (state_records part (1 ∷ replicate m 0)) o) where
  pub states_more : 3 * m + 6 ≤ length o → Filled (sets out (3 * (m + 1)) (2 ∷ part ∷ 0 ∷ [])) (state_records part (1 ∷ replicate (m + 1) 0)) o
  states_more h =
      let r : length (state_records part (1 ∷ replicate m 0)) ≡ 3 * (m + 1)
      = rw (records_length part (1 ∷ replicate m 0), length-replicate {A = ℕ} m 0) (omega arith) in
      let e : state_records part (1 ∷ replicate (m + 1) 0) ≡ state_records part (1 ∷ replicate m 0) ++ (2 ∷ part ∷ 0 ∷ [])
      = rw (add-one, ← replicate_snoc m) (records_snoc part (1 ∷ replicate m 0) 0) in
      rw e (fill_put out (state_records part (1 ∷ replicate m 0)) o (2 ∷ part ∷ 0 ∷ []) (3 * (m + 1)) p (sym r) (omega arith))

pub three : (o : List ℕ) (at a b d : ℕ) → set (set (set o at a) (at + 1) b) (at + 2) d ≡ put o at (a ∷ b ∷ d ∷ [])
unfolding put
three o at a b d =
    let e : at + 1 ≡ suc at = omega arith in
    let f : at + 2 ≡ suc (suc at) = omega arith in
    rw (e, f)

pub five : (o : List ℕ) (at a b d e f : ℕ) → set (set (set (set (set o at a) (at + 1) b) (at + 2) d) (at + 3) e) (at + 4) f
    ≡ put o at (a ∷ b ∷ d ∷ e ∷ f ∷ [])
unfolding put
five o at a b d e f =
    let x : at + 1 ≡ suc at = omega arith in
    let y : at + 2 ≡ suc (suc at) = omega arith in
    let z : at + 3 ≡ suc (suc (suc at)) = omega arith in
    let w : at + 4 ≡ suc (suc (suc (suc at))) = omega arith in
    rw (x, y, z, w)

pub filled_trans : (out X a W o : List ℕ) → Filled out X a → Filled a W o → length W ≤ length X → Filled out X o
filled_trans out X a W o p q h =
    let l = filled_length a W o q in
    let r = p.room in
    let k = length X - length W in
    let e : length X ≡ length W + k = omega arith in
    let d : drop (length X) a ≡ drop (length X) o = rw (q.is, e) (drop-append-add W (drop (length W) o) k ∙ drop-drop k (length W) o) in
    record { room = omega arith; is = rw (← d) p.is }

pub fresh_some : (n : ℕ) → 1 ≤ length (fresh n)
unfolding fresh
fresh_some zero = omega arith
fresh_some (suc n) = omega arith

pub fresh_more : (n : ℕ) → n ≤ length (fresh n)
unfolding fresh
fresh_more zero = omega arith
fresh_more (suc n) = let l = length-replicate {A = ℕ} n 0 in omega arith

pub fresh_length : (n : ℕ) → (n ≡ 0 → ⊥) → length (fresh n) ≡ n
unfolding fresh
fresh_length zero h = absurd (h refl)
fresh_length (suc n) h = ap suc (length-replicate n 0)

pub fresh_zero : (n : ℕ) → n ≡ 0 → fresh n ≡ 0 ∷ []
unfolding fresh
fresh_zero n e = rw e

fresh_is : (m n : ℕ) → m + 1 ≡ n → fresh n ≡ 1 ∷ replicate m 0
unfolding fresh
fresh_is m n e = rw (← e, add-one)

states_none : (o : List ℕ) (part n : ℕ) → n ≡ 0 → 3 ≤ length o → Filled (sets o 0 (2 ∷ part ∷ 0 ∷ [])) (state_records part (fresh n)) o
states_none o part n e h = rw (fresh_zero n e) (states_one o part 0 h)

pub fresh_count : (n m : ℕ) → m ≡ max n 1 → m ≡ length (fresh n)
unfolding fresh
fresh_count zero m e = omega arith
fresh_count (suc n) m e = let l = length-replicate {A = ℕ} n 0 in omega arith

-- the same of what a call leaves
pub left_first_lem : (l o : List ℕ) (part : ℕ) → l ≡ put o 0 (2 ∷ part ∷ 1 ∷ []) → 3 ≤ length o → Filled l (state_records part (fresh 1)) o
unfolding put fresh
left_first_lem l o part e h = rw e (states_one o part 1 h)

pub left_none : (l o : List ℕ) (part n : ℕ) → l ≡ put o 0 (2 ∷ part ∷ 0 ∷ []) → n ≡ 0 → 3 ≤ length o → Filled l (state_records part (fresh n)) o
unfolding put
left_none l o part n e z h = rw e (states_none o part n z h)

pub left_more : (l out o : List ℕ) (part m : ℕ) → l ≡ put out (3 * m) (2 ∷ part ∷ 0 ∷ []) → Filled out (state_records part (fresh m)) o → 1 ≤ m
    → 3 * m + 3 ≤ length o → Filled l (state_records part (fresh (m + 1))) o
unfolding put
left_more l out o part m e p q h = by_one (m - 1) m (omega arith) e p h
  where
    by_one : (k n : ℕ) → k + 1 ≡ n → l ≡ put out (3 * n) (2 ∷ part ∷ 0 ∷ []) → Filled out (state_records part (fresh n)) o → 3 * n + 3 ≤ length o
        → Filled l (state_records part (fresh (n + 1))) o
    by_one k n i g f r =
        rw (g, fresh_is n (n + 1) refl, ← i)
        (states_more out o part k (subst (λ (fs : List ℕ). Filled out (state_records part fs) o) (fresh_is k n i) f) (omega arith))

-- no more states are written than there may be, one at least
pub fresh_most : (most k n : ℕ) → k ≡ length (fresh n) → 1 ≤ most → n ≤ most → k ≤ most
unfolding fresh
fresh_most most k zero e p h = omega arith
fresh_most most k (suc n) e p h = let l = length-replicate {A = ℕ} n 0 in omega arith
