-- Lines made start by start, end by end, rule by rule are strictly sorted and hold each candidate once. Assumes nothing.
use Prim.Native.Nat.{ℕ, zero, suc, ◌+◌, ◌≤◌, ◌<◌}
use mathlib.Core.List.Memᴰ
use mathlib.Core.List.{List, [], ◌∷◌, ◌++◌, Memᴰ}
use mathlib.Core.Bool.{Bool, true, false}
use mathlib.Core.Path.{◌≡◌, refl, sym, ap, ◌∙◌}
use mathlib.Core.Logic.{⊎_elim, by_cases}
use native.Mathlib.Omega.{arith}
use native.Mathlib.Decide.{dec_lt}
use lib.ListN.{length}
use lib.Dec.{T}
use Rattle.stretches.specs.Candidates.{keep}
use Rattle.stretches.specs.Account.{Line, each}
use Rattle.stretches.specs.Sentences.{Before, start, end, rule, Sorted, SameCandidate, line_number}
use Rattle.stretches.proofs.Lists.{each_in, each_out, keep_in, keep_out}

-- no candidate is before itself
pub before_other : (l m : Line) → Before l m → SameCandidate l m → ⊥
before_other l m (start h) e = let p = e.start in omega arith
before_other l m (end q h) e = let p = e.end in omega arith
before_other l m (rule q f h) e = let p = e.rule in omega arith

-- the lines and their numbers
pub number_in : (ls : List Line) (k : ℕ) → k < length ls → Memᴰ (line_number ls k) ls
number_in [] k h = absurd (omega arith)
number_in (l ∷ ls) zero h = Memᴰ.head refl
number_in (l ∷ ls) (suc k) h = Memᴰ.tail (number_in ls k (omega arith))

pub in_number : (ls : List Line) (l : Line) → Memᴰ l ls → (k : ℕ) × (k < length ls) × (line_number ls k ≡ l)
in_number (x ∷ ls) l (Memᴰ.head e) = (0, omega arith, sym e)
in_number (x ∷ ls) l (Memᴰ.tail m) = let z = in_number ls l m in let h = z.1 in (suc z.0, omega arith, z.2)
in_number [] l m = elim m [ ]

numbers_before : (ls : List Line) → Sorted ls → (j k : ℕ) → j < k → k < length ls → Before (line_number ls j) (line_number ls k)
numbers_before [] p j k h g = absurd (omega arith)
numbers_before (l ∷ ls) p j zero h g = absurd (omega arith)
numbers_before (l ∷ ls) p zero (suc k) h g = p.0 (line_number ls k) (number_in ls k (omega arith))
numbers_before (l ∷ ls) p (suc j) (suc k) h g = numbers_before ls p.1 j k (omega arith) (omega arith)

-- so a sorted list has no candidate twice
pub sorted_once : (ls : List Line) → Sorted ls → (j k : ℕ) → j < length ls → k < length ls → SameCandidate (line_number ls j) (line_number ls k) → j ≡ k
sorted_once ls p j k h g e = by_cases (dec_lt j k) (λ l. absurd (before_other (line_number ls j) (line_number ls k) (numbers_before ls p j k l g) e))
    (λ l. by_cases (dec_lt k j) (λ m. absurd (before_other (line_number ls k) (line_number ls j) (numbers_before ls p k j m h)
    (record { start = sym e.start; end = sym e.end; rule = sym e.rule })))
    (λ m. omega arith))

sorted_append : (xs ys : List Line) → Sorted xs → Sorted ys → ((x y : Line) → Memᴰ x xs → Memᴰ y ys → Before x y) → Sorted (xs ++ ys)
sorted_append [] ys p q h = q
sorted_append (x ∷ xs) ys p q h = (
  λ m z. ⊎_elim (λ w. p.0 m w) (λ w. h x m (Memᴰ.head refl) w) (Memᴰ.append_cases xs z),
  sorted_append xs ys p.1 q
      (λ a b i j. h a b (Memᴰ.tail i) j),
)

sorted_each : (f : ℕ → List Line) (a n : ℕ) → ((k : ℕ) → Sorted (f k)) → ((k l : ℕ) (x y : Line) → k < l → Memᴰ x (f k) → Memᴰ y (f l) → Before x y)
    → Sorted (each f a n)
sorted_each f a zero p h = tt
sorted_each f a (suc n) p h = sorted_append (f a) (each f (suc a) n) (p a) (sorted_each f (suc a) n p h)
    (λ x y i j. let z = each_out f y (suc a) n j in h a z.0 x y z.1 i z.3)

sorted_keep : (c : Bool) (l : Line) → Sorted (keep c l)
sorted_keep true l = (λ m z. elim z [ ], tt)
sorted_keep false l = tt

-- the line of a candidate names it
pub record Names (line : ℕ → ℕ → ℕ → Line) : Type 0 where
  pub start_is : (i j r : ℕ) → (line i j r).start ≡ i
  pub end_is : (i j r : ℕ) → (line i j r).end ≡ j
  pub rule_is : (i j r : ℕ) → (line i j r).rule ≡ r

-- n starts; at the start i, ends from lo i on; m rules
module _ (cand : ℕ → ℕ → ℕ → Bool) (line : ℕ → ℕ → ℕ → Line) (lo count : ℕ → ℕ) (n m : ℕ) where
  abbrev pub lines_of : ℕ → ℕ → List Line
  lines_of i j = each (λ (r : ℕ). keep (cand i j r) (line i j r)) 0 m

  abbrev pub lines_from : ℕ → List Line
  lines_from i = each (lines_of i) (lo i) (count i)

  abbrev pub lines : List Line
  lines = each lines_from 0 n

  pub record Listed (i j r : ℕ) (l : Line) : Type 0 where
    pub start : i < n
    pub low : lo i ≤ j
    pub high : j < lo i + count i
    pub known : r < m
    pub holds : T (cand i j r)
    pub line_is : l ≡ line i j r

  of_out : (i j : ℕ) (l : Line) → Memᴰ l (lines_of i j) → (r : ℕ) × (r < m) × T (cand i j r) × (l ≡ line i j r)
  of_out i j l x =
      let z = each_out (λ (r : ℕ). keep (cand i j r) (line i j r)) l 0 m x in let y = keep_out (cand i j z.0) l (line i j z.0) z.3 in let h = z.2 in
      (z.0, omega arith, y.0, y.1)

  pub lines_out : (l : Line) → Memᴰ l lines → (i j r : ℕ) × Listed i j r l
  lines_out l x =
      let y = each_out lines_from l 0 n x in
      let z = each_out (lines_of y.0) l (lo y.0) (count y.0) y.3 in
      let w = of_out y.0 z.0 l z.3 in
      let h = y.2 in
      (y.0, z.0, w.0, record { start = omega arith; low = z.1; high = z.2; known = w.1; holds = w.2; line_is = w.3 })

  pub lines_in_lem : (i j r : ℕ) (l : Line) → Listed i j r l → Memᴰ l lines
  lines_in_lem i j r l x =
      let a = x.start in
      let b = x.known in
      each_in lines_from l 0 n i (omega arith) (omega arith)
      (each_in (lines_of i) l (lo i) (count i) j x.low x.high
      (each_in (λ (r : ℕ). keep (cand i j r) (line i j r)) l 0 m r (omega arith) (omega arith)
      (keep_in (cand i j r) l (line i j r) x.holds x.line_is)))

  pub lines_sorted : Names line → Sorted lines
  lines_sorted N = sorted_each lines_from 0 n
      (λ i. sorted_each (lines_of i) (lo i) (count i)
      (λ j. sorted_each (λ (r : ℕ). keep (cand i j r) (line i j r)) 0 m (λ r. sorted_keep (cand i j r) (line i j r))
      (λ r s x y h p q. let u = (keep_out (cand i j r) x (line i j r) p).1 in let v = (keep_out (cand i j s) y (line i j s) q).1 in
      rule (ap F u ∙ N.start_is i j r ∙ sym (ap F v ∙ N.start_is i j s)) (ap G u ∙ N.end_is i j r ∙ sym (ap G v ∙ N.end_is i j s))
      (let a = ap H u ∙ N.rule_is i j r in let b = ap H v ∙ N.rule_is i j s in omega arith)))
      (λ j k x y h p q. let u = of_out i j x p in let v = of_out i k y q in
      end (ap F u.3 ∙ N.start_is i j u.0 ∙ sym (ap F v.3 ∙ N.start_is i k v.0))
      (let a = ap G u.3 ∙ N.end_is i j u.0 in let b = ap G v.3 ∙ N.end_is i k v.0 in omega arith)))
      (λ i k x y h p q.
      let w = each_out (lines_of i) x (lo i) (count i) p in
      let z = each_out (lines_of k) y (lo k) (count k) q in
      let u = of_out i w.0 x w.3 in
      let v = of_out k z.0 y z.3 in
      start (let a = ap F u.3 ∙ N.start_is i w.0 u.0 in let b = ap F v.3 ∙ N.start_is k z.0 v.0 in omega arith))
    where
      F : Line → ℕ
      F l = l.start

      G : Line → ℕ
      G l = l.end

      H : Line → ℕ
      H l = l.rule
