-- The numbering with rows of w entries: pair by pair and row by row; and with w + d entries where each further symbol leads back to the first set: the
-- same sets with the same numbers, and rows that agree on the first w entries and are 0 on the others. Assumes nothing.
use Prim.Native.Nat.{ℕ, zero, suc, ◌+◌, ◌*◌, ◌≤◌, ◌<◌, zero-le, suc-le-suc}
use mathlib.Core.Path.{◌≡◌, refl, sym, ap, ap₂, ◌∙◌, subst, subst₂}
use mathlib.Core.Bool.{true, false}
use mathlib.Core.List.{List, [], ◌∷◌, ◌++◌, append-nil, append_assoc}
use native.Mathlib.Omega.{arith}
use native.Mathlib.Nat.{mul_comm, add-suc, add-zero, suc-mul, zero-mul, le_trans, mul-le-mul_right}
use native.Mathlib.Decide.{dec_lt, ℕ_discrete}
use native.Mathlib.Numerals.{add-one}
use lib.Arith.{digits_lt, digits_div, digits_mod}
use lib.Dec.{ltb}
use lib.ListN.{length, get_or, replicate, length-append, length-replicate, get_or-replicate, replicate-append-replicate, get_or-append, get_or-eq_default}
use lib.Seq.{get_or-append-add}
use borrow.Author.Tests.{lt-ltb, le-ltb}
use Rattle.book.specs.Format.{symbol_count}
use Rattle.sets.specs.Numbering.{idx, Table, enter, met, next, turn, run}
use Rattle.sets.specs.Before.{next_below, turn_below, run_below}
use Rattle.book.proofs.Idx.{idx_same}
use Rattle.sets.proofs.Turns.{enter_new, enter_old}

-- as many entries as there are symbols: the numbering as it is
pub run_now : (f : ℕ → ℕ → ℕ) (s j : ℕ) → run_below symbol_count f s j ≡ run f s j
unfolding run_below run turn_below turn next_below next
run_now f s zero = refl
run_now f s (suc j) = ap (turn f j) (run_now f s j)

-- ---- pair by pair

-- set k with symbol a, if there is such a set by then
pair_turn : (ℕ → ℕ → ℕ) → ℕ → ℕ → Table → Table
pair_turn f k a t = elim (ltb k (length t.sets)) [ true ↦ met (f (get_or t.sets k 0) a) t | false ↦ t ]

module _ (f : ℕ → ℕ → ℕ) (k a : ℕ) (t : Table) where
  pair_idle : length t.sets ≤ k → pair_turn f k a t ≡ t
  unfolding pair_turn
  pair_idle h = rw (le-ltb k (length t.sets) h, pair_turn)

  pair_go : k < length t.sets → pair_turn f k a t ≡ met (f (get_or t.sets k 0) a) t
  unfolding pair_turn
  pair_go h = rw (lt-ltb k (length t.sets) h, pair_turn)

  -- that is turn k * w + a
  turn_pair : (w : ℕ) → a < w → turn_below w f (k * w + a) t ≡ pair_turn f k a t
  unfolding turn_below next_below
  turn_pair w h = by (dec_lt k (length t.sets))
    where
      L : ℕ
      L = length t.sets

      same_set : next_below w f (k * w + a) t.sets ≡ f (get_or t.sets k 0) a
      same_set = ap₂ f (ap (λ (i : ℕ). get_or t.sets i 0) (digits_div k h)) (digits_mod k h)

      by : Dec (k < L) → turn_below w f (k * w + a) t ≡ pair_turn f k a t
      by (yes l) =
          let e : ltb (k * w + a) (w * L) ≡ true = lt-ltb _ _ (subst (λ (n : ℕ). k * w + a < n) (mul_comm L w) (digits_lt l h)) in
          rw (e, turn_below) (ap (λ (x : ℕ). met x t) same_set ∙ sym (pair_go l))
      by (no l) =
          let m : L * w ≤ k * w = mul-le-mul_right w (omega arith) in
          let e : ltb (k * w + a) (w * L) ≡ false = le-ltb _ _ (subst (λ (n : ℕ). n ≤ k * w + a) (mul_comm L w) (omega arith)) in
          rw (e, turn_below) (sym (pair_idle (omega arith)))

-- ---- row by row

row_turns : (ℕ → ℕ → ℕ) → ℕ → ℕ → Table → Table
row_turns f k zero t = t
row_turns f k (suc a) t = pair_turn f k a (row_turns f k a t)

module _ (f : ℕ → ℕ → ℕ) (s w : ℕ) where
  one : (j : ℕ) → run_below w f s (suc j) ≡ turn_below w f j (run_below w f s j)
  unfolding run_below
  one j = refl

  in_row : (k a : ℕ) → a ≤ w → run_below w f s (k * w + a) ≡ row_turns f k a (run_below w f s (k * w))
  unfolding row_turns
  in_row k zero h = ap (run_below w f s) (add-zero (k * w))
  in_row k (suc a) h =
      ap (run_below w f s) (add-suc (k * w) a) ∙ one (k * w + a) ∙ turn_pair f k a (run_below w f s (k * w + a)) w (omega arith)
      ∙ ap (pair_turn f k a) (in_row k a (omega arith))

  row_more : (k : ℕ) → run_below w f s (suc k * w) ≡ row_turns f k w (run_below w f s (k * w))
  row_more k = ap (run_below w f s) (suc-mul k w) ∙ in_row k w (omega arith)

-- ---- what a row adds: the sets with the new ones, and the row's numbers, whatever the rows before

grown : (ℕ → ℕ → ℕ) → ℕ → ℕ → List ℕ → List ℕ
grown f k zero S = S
grown f k (suc a) S = (met (f (get_or (grown f k a S) k 0) a) (record { sets = grown f k a S; rows = [] })).sets

numbers : (ℕ → ℕ → ℕ) → ℕ → ℕ → List ℕ → List ℕ
numbers f k zero S = []
numbers f k (suc a) S = numbers f k a S ++ (idx (grown f k a S) (f (get_or (grown f k a S) k 0) a) ∷ [])

-- x is met: the sets do not depend on the rows
met_sets : (x : ℕ) (S R : List ℕ)
    → met x (record { sets = S; rows = R }) ≡ record { sets = (met x (record { sets = S; rows = [] })).sets; rows = R ++ (idx S x ∷ []) }
unfolding met enter
met_sets x S R = refl

-- one that has a number below the count adds none; and none is lost
met_old : (x : ℕ) (S : List ℕ) → (idx S x ≡ length S → ⊥) → (met x (record { sets = S; rows = [] })).sets ≡ S
unfolding met
met_old x S h = ap (λ (t : Table). t.sets) (enter_old (idx S x) x (record { sets = S; rows = [] }) h)

met_new : (x : ℕ) (S : List ℕ) → idx S x ≡ length S → (met x (record { sets = S; rows = [] })).sets ≡ S ++ (x ∷ [])
unfolding met
met_new x S h = ap (λ (t : Table). t.sets) (enter_new (idx S x) x (record { sets = S; rows = [] }) h)

met_long : (x : ℕ) (S : List ℕ) → length S ≤ length (met x (record { sets = S; rows = [] })).sets
met_long x S = by (ℕ_discrete (idx S x) (length S))
  where
    by : Dec (idx S x ≡ length S) → length S ≤ length (met x (record { sets = S; rows = [] })).sets
    by (yes e) = rw (met_new x S e) (simp length-append (omega arith))
    by (no e) = rw (met_old x S e) (omega arith)

module _ (f : ℕ → ℕ → ℕ) (k : ℕ) (S : List ℕ) where
  grown_long : (n : ℕ) → length S ≤ length (grown f k n S)
  unfolding grown
  grown_long zero = omega arith
  grown_long (suc n) = le_trans (grown_long n) (met_long _ (grown f k n S))

  numbers_long : (n : ℕ) → length (numbers f k n S) ≡ n
  unfolding numbers
  numbers_long zero = refl
  numbers_long (suc n) = simp length-append (omega (arith, numbers_long n))

  row_adds : (R : List ℕ) → k < length S → (n : ℕ)
      → row_turns f k n (record { sets = S; rows = R }) ≡ record { sets = grown f k n S; rows = R ++ numbers f k n S }
  unfolding row_turns grown numbers
  row_adds R h zero = ap (λ (r : List ℕ). record { sets = S; rows = r }) (sym (append-nil R))
  row_adds R h (suc n) =
      let G = grown f k n S in
      let x = f (get_or G k 0) n in
      ap (pair_turn f k n) (row_adds R h n)
      ∙ pair_go f k n (record { sets = G; rows = R ++ numbers f k n S }) (omega (arith, grown_long n))
      ∙ met_sets x G (R ++ numbers f k n S)
      ∙ ap (λ (r : List ℕ). record { sets = (met x (record { sets = G; rows = [] })).sets; rows = r }) (append_assoc R (numbers f k n S) (idx G x ∷ []))

  -- no row is left
  row_idle : (R : List ℕ) → length S ≤ k → (n : ℕ) → row_turns f k n (record { sets = S; rows = R }) ≡ record { sets = S; rows = R }
  unfolding row_turns
  row_idle R h zero = refl
  row_idle R h (suc n) = ap (pair_turn f k n) (row_idle R h n) ∙ pair_idle f k n (record { sets = S; rows = R }) h

-- ---- each symbol from w on leads back to the first set

Headed : ℕ → List ℕ → Type 0
Headed s S = (T : List ℕ) × (S ≡ s ∷ T)

module _ (s : ℕ) where
  first_number_lem : (S : List ℕ) → Headed s S → (idx S s ≡ 0) × (0 < length S)
  unfolding Headed
  first_number_lem S h = rw h.1 (idx_same s h.0 s refl, suc-le-suc zero-le)

  met_headed : (x : ℕ) (S : List ℕ) → Headed s S → Headed s (met x (record { sets = S; rows = [] })).sets
  unfolding Headed
  met_headed x S h = by (ℕ_discrete (idx S x) (length S))
    where
      by : Dec (idx S x ≡ length S) → Headed s (met x (record { sets = S; rows = [] })).sets
      by (yes e) = (h.0 ++ (x ∷ []), met_new x S e ∙ ap (λ (l : List ℕ). l ++ (x ∷ [])) h.1)
      by (no e) = (h.0, met_old x S e ∙ h.1)

  module _ (f : ℕ → ℕ → ℕ) (k : ℕ) (S : List ℕ) (h : Headed s S) where
    grown_headed : (n : ℕ) → Headed s (grown f k n S)
    unfolding grown
    grown_headed zero = h
    grown_headed (suc n) = met_headed _ (grown f k n S) (grown_headed n)

    module _ (w : ℕ) (back : (x a : ℕ) → w ≤ a → f x a ≡ s) where
      grown_back : (d : ℕ) → grown f k (w + d) S ≡ grown f k w S
      unfolding grown
      grown_back zero = ap (λ (n : ℕ). grown f k n S) (add-zero w)
      grown_back (suc d) =
          let G = grown f k (w + d) S in
          let x = f (get_or G k 0) (w + d) in
          let e : x ≡ s = back _ (w + d) (omega arith) in
          let o = first_number_lem G (grown_headed (w + d)) in
          ap (λ (n : ℕ). grown f k n S) (add-suc w d) ∙ met_old x G (λ z. omega (arith, ap (idx G) e ∙ o.0, o.1)) ∙ grown_back d

      numbers_back : (d : ℕ) → numbers f k (w + d) S ≡ numbers f k w S ++ replicate d 0
      unfolding numbers
      numbers_back zero = ap (λ (n : ℕ). numbers f k n S) (add-zero w) ∙ sym (append-nil (numbers f k w S))
      numbers_back (suc d) =
          let G = grown f k (w + d) S in
          let x = f (get_or G k 0) (w + d) in
          let e : idx G x ≡ 0 = ap (idx G) (back _ (w + d) (omega arith)) ∙ (first_number_lem G (grown_headed (w + d))).0 in
          ap (λ (n : ℕ). numbers f k n S) (add-suc w d)
          ∙ ap₂ (λ (l : List ℕ) (n : ℕ). l ++ (n ∷ [])) (numbers_back d) e
          ∙ append_assoc (numbers f k w S) (replicate d 0) (0 ∷ [])
          ∙ ap (λ (l : List ℕ). numbers f k w S ++ l) (replicate-append-replicate d 1 0 ∙ ap (λ (n : ℕ). replicate n 0) (add-one d))

-- two tables with rows of w and of w + d entries: the same sets, and rows that agree
pub record Same (s w d K : ℕ) (t t' : Table) : Type 0 where
  headed : Headed s t.sets
  pub sets : t'.sets ≡ t.sets
  -- the rows there are
  count : ℕ
  few : count ≤ K
  long : length t.rows ≡ count * w
  long' : length t'.rows ≡ count * (w + d)
  agree : (k a : ℕ) → k < count → a < w → get_or t'.rows (k * (w + d) + a) 0 ≡ get_or t.rows (k * w + a) 0
  zeros : (k a : ℕ) → k < count → a < d → get_or t'.rows (k * (w + d) + (w + a)) 0 ≡ 0

at_row : (R r : List ℕ) (n i : ℕ) → length R ≡ n → get_or (R ++ r) (n + i) 0 ≡ get_or r i 0
at_row R r n i e = ap (λ (k : ℕ). get_or (R ++ r) (k + i) 0) (sym e) ∙ get_or-append-add R r i 0

module _ (f : ℕ → ℕ → ℕ) (s w d : ℕ) (back : (x a : ℕ) → w ≤ a → f x a ≡ s) where
  -- a row more
  same_row : (K : ℕ) (S R R' : List ℕ) → Same s w d K (record { sets = S; rows = R }) (record { sets = S; rows = R' })
      → Same s w d (suc K) (record { sets = grown f K w S; rows = R ++ numbers f K w S })
      (record { sets = grown f K w S; rows = R' ++ (numbers f K w S ++ replicate d 0) })
  same_row K S R R' o =
      record {
        headed = grown_headed s f K S o.headed w;
        sets = refl;
        count = suc n;
        few = omega (arith, o.few);
        long = length-append R r ∙ ap₂ ◌+◌ o.long (numbers_long f K S w) ∙ sym (suc-mul n w);
        long' = length-append R' (r ++ replicate d 0)
            ∙ ap₂ ◌+◌ o.long' (length-append r (replicate d 0) ∙ ap₂ ◌+◌ (numbers_long f K S w) (length-replicate d 0)) ∙ sym (suc-mul n (w + d));
        agree = λ k a h g. agree k a h g (dec_lt k n);
        zeros = λ k a h g. zeros k a h g (dec_lt k n);
      }
    where
      n : ℕ
      n = o.count

      r : List ℕ
      r = numbers f K w S

      agree : (k a : ℕ) → k < suc n → a < w → Dec (k < n) → get_or (R' ++ (r ++ replicate d 0)) (k * (w + d) + a) 0 ≡ get_or (R ++ r) (k * w + a) 0
      agree k a h g (yes l) =
          get_or-append R' _ 0 _ (subst (λ (m : ℕ). k * (w + d) + a < m) (sym o.long') (digits_lt l (omega arith)))
          ∙ o.agree k a l g
          ∙ sym (get_or-append R _ 0 _ (subst (λ (m : ℕ). k * w + a < m) (sym o.long) (digits_lt l g)))
      agree k a h g (no l) =
          let e : k ≡ n = omega arith in
          at_row R' (r ++ replicate d 0) (k * (w + d)) a (o.long' ∙ ap (λ (m : ℕ). m * (w + d)) (sym e))
          ∙ get_or-append r (replicate d 0) 0 a (omega (arith, numbers_long f K S w))
          ∙ sym (at_row R r (k * w) a (o.long ∙ ap (λ (m : ℕ). m * w) (sym e)))

      zeros : (k a : ℕ) → k < suc n → a < d → Dec (k < n) → get_or (R' ++ (r ++ replicate d 0)) (k * (w + d) + (w + a)) 0 ≡ 0
      zeros k a h g (yes l) =
          get_or-append R' _ 0 _ (subst (λ (m : ℕ). k * (w + d) + (w + a) < m) (sym o.long') (digits_lt l (omega arith)))
          ∙ o.zeros k a l g
      zeros k a h g (no l) =
          let e : k ≡ n = omega arith in
          at_row R' (r ++ replicate d 0) (k * (w + d)) (w + a) (o.long' ∙ ap (λ (m : ℕ). m * (w + d)) (sym e))
          ∙ at_row r (replicate d 0) w a (numbers_long f K S w) ∙ get_or-replicate d a 0 0 g

  -- no row more
  same_idle : (K : ℕ) (t t' : Table) → Same s w d K t t' → Same s w d (suc K) t t'
  same_idle K t t' o =
      record {
        headed = o.headed;
        sets = o.sets;
        count = o.count;
        few = omega (arith, o.few);
        long = o.long;
        long' = o.long';
        agree = o.agree;
        zeros = o.zeros;
      }

  same_more : (K : ℕ) (t t' : Table) → Same s w d K t t' → Same s w d (suc K) (row_turns f K w t) (row_turns f K (w + d) t')
  same_more K t t' o = by (dec_lt K (length t.sets))
    where
      S : List ℕ
      S = t.sets

      now : t' ≡ record { sets = S; rows = t'.rows }
      now = ap (λ (x : List ℕ). record { sets = x; rows = t'.rows }) o.sets

      o₁ : Same s w d K (record { sets = S; rows = t.rows }) (record { sets = S; rows = t'.rows })
      o₁ = subst (Same s w d K t) now o

      by : Dec (K < length S) → Same s w d (suc K) (row_turns f K w t) (row_turns f K (w + d) t')
      by (yes l) =
          let e = row_adds f K S t.rows l w in
          let e' = ap (row_turns f K (w + d)) now ∙ row_adds f K S t'.rows l (w + d)
          ∙ ap₂ (λ (x y : List ℕ). record { sets = x; rows = t'.rows ++ y })
          (grown_back s f K S o.headed w back d) (numbers_back s f K S o.headed w back d) in
          subst₂ (Same s w d (suc K)) (sym e) (sym e') (same_row K S t.rows t'.rows o₁)
      by (no l) =
          let h : length S ≤ K = omega arith in
          let e = row_idle f K S t.rows h w in
          let e' = ap (row_turns f K (w + d)) now ∙ row_idle f K S t'.rows h (w + d) in
          subst₂ (Same s w d (suc K)) (sym e) (sym e') (same_idle K _ _ o₁)

  same_start : Same s w d 0 (run_below w f s 0) (run_below (w + d) f s 0)
  unfolding run_below Headed
  same_start =
      record {
        headed = ([], refl);
        sets = refl;
        count = 0;
        few = omega arith;
        long = sym (zero-mul w);
        long' = sym (zero-mul (w + d));
        agree = λ k a h g. absurd (omega arith);
        zeros = λ k a h g. absurd (omega arith);
      }

  -- after K rows
  pub same : (K : ℕ) → Same s w d K (run_below w f s (K * w)) (run_below (w + d) f s (K * (w + d)))
  same zero = subst₂ (Same s w d 0) (ap (run_below w f s) (sym (zero-mul w))) (ap (run_below (w + d) f s) (sym (zero-mul (w + d)))) same_start
  same (suc K) = subst₂ (Same s w d (suc K)) (sym (row_more f s w K)) (sym (row_more f s (w + d) K)) (same_more K _ _ (same K))

-- what stands in the rows, past the last one too
module _ (s w d K : ℕ) (t t' : Table) (o : Same s w d K t t') where
  pub same_entry : (k a : ℕ) → a < w → get_or t'.rows (k * (w + d) + a) 0 ≡ get_or t.rows (k * w + a) 0
  same_entry k a h = by (dec_lt k o.count)
    where
      by : Dec (k < o.count) → get_or t'.rows (k * (w + d) + a) 0 ≡ get_or t.rows (k * w + a) 0
      by (yes l) = o.agree k a l h
      by (no l) =
          let p : o.count * (w + d) ≤ k * (w + d) = mul-le-mul_right (w + d) (omega arith) in
          let q : o.count * w ≤ k * w = mul-le-mul_right w (omega arith) in
          get_or-eq_default t'.rows 0 (omega (arith, o.long')) ∙ sym (get_or-eq_default t.rows 0 (omega (arith, o.long)))

  pub new_entry : (k a : ℕ) → a < d → get_or t'.rows (k * (w + d) + (w + a)) 0 ≡ 0
  new_entry k a h = by (dec_lt k o.count)
    where
      by : Dec (k < o.count) → get_or t'.rows (k * (w + d) + (w + a)) 0 ≡ 0
      by (yes l) = o.zeros k a l h
      by (no l) =
          let p : o.count * (w + d) ≤ k * (w + d) = mul-le-mul_right (w + d) (omega arith) in
          get_or-eq_default t'.rows 0 (omega (arith, o.long'))

  -- they fit into K rows
  pub rows_fit : length t.rows ≤ K * w
  rows_fit = subst (λ (n : ℕ). n ≤ K * w) (sym o.long) (mul-le-mul_right w o.few)

  pub rows_fit' : length t'.rows ≤ K * (w + d)
  rows_fit' = subst (λ (n : ℕ). n ≤ K * (w + d)) (sym o.long') (mul-le-mul_right (w + d) o.few)
