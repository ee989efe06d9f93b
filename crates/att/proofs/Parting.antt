-- Laws of fields: one byte more of `before`, `past`, `count`, `digits` and `value_from`; the cap.
use Prim.Native.Nat.{ℕ, suc, ◌+◌, ◌-◌, ◌*◌, ◌≤◌, ◌<◌}
use mathlib.Core.Path.{◌≡◌, refl, ap, sym, ◌∙◌}
use mathlib.Core.List.{List, [], ◌∷◌}
use mathlib.Core.Bool.{Bool, true, false, ◌&&◌, cond}
use native.Mathlib.Numerals.{add-one}
use native.Mathlib.Omega.{arith}
use lib.Dec.{eqb, leb, ltb}
use native.Mathlib.Decide.{dec_lt}
use lib.ListN.{length, take, drop, get_or, length-drop}
use lib.Seq.{drop-cons, drop-length, take_all}
use borrow.Author.Tests.{eq-eqb, ne_eqb, le-leb, lt-leb, leb-true, lt-ltb, le-ltb}
use Rattle.std.specs.Prelude.{Option, Some, None, Ok, Err, count_by}
use Rattle.std.specs.List.{position_or_len, list_all}
use Rattle.std.specs.Option.{unwrap_or, ok_or, SomeIff, MatchOption}
use Rattle.std.specs.List.{slice_range}
use Rattle.std.proofs.Common.{◌⊎◌, ⊎_elim, Bor}
use Rattle.att.specs.Results.{number_read}
use Rattle.att.specs.declared.fields.Unread.{Unread}
use Rattle.att.specs.declared.fields.Unread.TheVariants.{NoNumber, TooHigh}
use Rattle.std.proofs.lemmas.List.Recursion.{is_position_or_len, is_count_by}
use Rattle.book.proofs.Laws.{and_right}
use Rattle.att.specs.Fields.{tab, digit, digit_zero, most_state, before, past, count, field_count, digits, is_number, value_from, value}
use Rattle.att.specs.Numbers.{too_high, no_number, capped, read_number}

-- the rest from i on, and one byte less
pub drop_one : (s : List ℕ) (i : ℕ) → i < length s → drop i s ≡ get_or s i 0 ∷ drop (i + 1) s
drop_one s i h = rw (add-one, drop-cons s i 0)

pub drop_none : (s : List ℕ) (i : ℕ) → i ≤ length s → length s ≤ i → drop i s ≡ []
drop_none s i h k = let e : i ≡ length s = omega arith in rw (e, drop-length s)

before_short_by : (t : Bool) (x : ℕ) (m s : List ℕ) → length m ≤ length s → length {A = ℕ} (elim t [ true ↦ [] | false ↦ x ∷ m ]) ≤ suc (length s)
before_short_by true x m s h = omega arith
before_short_by false x m s h = omega arith

pub before_short : (b : ℕ) (s : List ℕ) → length (before b s) ≤ length s
unfolding before
before_short b [] = omega arith
before_short b (x ∷ s) = before_short_by (eqb x b) x (before b s) s (before_short b s)

-- how many bytes stand before the first b, as the library finds it
before_first_len : (b : ℕ) (s : List ℕ) → length (before b s) ≡ position_or_len (λ x. eqb x b) s
unfolding before
before_first_len b = is_position_or_len (λ s. length (before b s)) (λ x. eqb x b) refl (λ x s. by_test (eqb x b) x s)
  where
    by_test : (t : Bool) (x : ℕ) (s : List ℕ) → length {A = ℕ} (elim t [ true ↦ [] | false ↦ x ∷ before b s ]) ≡ cond t 0 (1 + length (before b s))
    by_test true x s = refl
    by_test false x s = omega arith

pub span_is : (b : ℕ) (s : List ℕ) (r : Option ℕ)
    → r ≡ cond (ltb (position_or_len (λ x. eqb x b) s) (length s)) (Some (position_or_len (λ x. eqb x b) s)) None
    → unwrap_or r (length s) ≡ length (before b s)
span_is b s r e = rw (e, ← before_first_len b s) (by_case (dec_lt (length (before b s)) (length s)))
  where
    by_case : Dec (length (before b s) < length s)
        → unwrap_or (cond (ltb (length (before b s)) (length s)) (Some (length (before b s))) None) (length s) ≡ length (before b s)
    by_case (yes h) = rw (lt-ltb _ _ h)
    by_case (no h) = let k : length s ≤ length (before b s) = omega (arith, h) in rw (le-ltb _ _ k) (omega (arith, before_short b s))

-- the front as a part of the list, and what is past it
before_take_by : (t : Bool) (x : ℕ) (m s : List ℕ) → take (length m) s ≡ m
    → take (length {A = ℕ} (elim t [ true ↦ [] | false ↦ x ∷ m ])) (x ∷ s) ≡ elim t [ true ↦ [] | false ↦ x ∷ m ]
before_take_by true x m s h = refl
before_take_by false x m s h = ap (λ (l : List ℕ). x ∷ l) h

before_take : (b : ℕ) (s : List ℕ) → take (length (before b s)) s ≡ before b s
unfolding before
before_take b [] = refl
before_take b (x ∷ s) = before_take_by (eqb x b) x (before b s) s (before_take b s)

past_drop_by : (t : Bool) (x : ℕ) (m p s : List ℕ) → drop (suc (length m)) s ≡ p
    → drop (length {A = ℕ} (elim t [ true ↦ [] | false ↦ x ∷ m ])) s ≡ elim t [ true ↦ s | false ↦ p ]
past_drop_by true x m p s h = refl
past_drop_by false x m p s h = h

past_drop : (b : ℕ) (s : List ℕ) → drop (suc (length (before b s))) s ≡ past b s
unfolding before past
past_drop b [] = refl
past_drop b (x ∷ s) = past_drop_by (eqb x b) x (before b s) (past b s) s (past_drop b s)

-- with no b, all stands before it
past_none_by : (t : Bool) (x : ℕ) (m p s : List ℕ) → (length s ≤ length m → p ≡ [])
    → length (x ∷ s) ≤ length {A = ℕ} (elim t [ true ↦ [] | false ↦ x ∷ m ]) → ◌≡◌ {A = List ℕ} (elim t [ true ↦ s | false ↦ p ]) []
past_none_by true x m p s f h = let w : ⊥ = omega arith in absurd w
past_none_by false x m p s f h = f (omega arith)

past_none : (b : ℕ) (s : List ℕ) → length s ≤ length (before b s) → past b s ≡ []
unfolding before past
past_none b [] h = refl
past_none b (x ∷ s) h = past_none_by (eqb x b) x (before b s) (past b s) s (past_none b s) h

-- counting tabs
count_is : (b : ℕ) (s : List ℕ) → count b s ≡ count_by (λ x. eqb x b) s
unfolding count
count_is b = is_count_by (count b) (λ x. eqb x b) refl (λ x s. by_test (eqb x b) (count b s))
  where
    by_test : (t : Bool) (n : ℕ) → cond t 1 0 + n ≡ cond t (1 + n) n
    by_test true n = refl
    by_test false n = omega arith

pub field_count_is : (l : List ℕ) (n : ℕ) → n ≡ count_by (λ x. eqb x tab) l → 1 + n ≡ field_count l
unfolding field_count
field_count_is l n e = rw (e, count_is tab l)

-- numbers
value_grows : (f : List ℕ) (v : ℕ) → v ≤ value_from v f
unfolding value_from
value_grows [] v = omega arith
value_grows (x ∷ f) v = let h = value_grows f (v * 10 + (x - digit_zero)) in omega arith

pub capped_small : (v : ℕ) → v ≤ most_state → capped v ≡ v
unfolding capped
capped_small v h = simp (le-leb v most_state h)

capped_top : (v : ℕ) → capped v ≤ too_high
unfolding capped
capped_top v = by_test (leb v most_state) (λ e. leb-true v most_state e)
  where
    by_test : (t : Bool) → (t ≡ true → v ≤ most_state) → cond t v too_high ≤ too_high
    by_test true h = let k = h refl in omega arith
    by_test false h = omega arith

pub capped_big : (v : ℕ) → most_state < v → capped v ≡ too_high
unfolding capped
capped_big v h = simp (lt-leb v most_state h)

capped_fix : (v : ℕ) → v ≤ too_high → capped v ≡ v
capped_fix v h = by_case (dec_lt most_state v)
  where
    by_case : Dec (most_state < v) → capped v ≡ v
    by_case (yes k) = capped_big v k ∙ omega arith
    by_case (no k) = capped_small v (omega (arith, k))

capped_in : (w : ℕ) (f : List ℕ) → capped (value_from (capped w) f) ≡ capped (value_from w f)
capped_in w f = by_case (dec_lt most_state w)
  where
    by_case : Dec (most_state < w) → capped (value_from (capped w) f) ≡ capped (value_from w f)
    by_case (yes k) =
        let e = capped_big w k in
        let h = value_grows f w in
        let g = value_grows f (capped w) in
        capped_big _ (omega arith) ∙ sym (capped_big _ (omega arith))
    by_case (no k) = let h : w ≤ most_state = omega (arith, k) in ap (λ (x : ℕ). capped (value_from x f)) (capped_small w h)

digits_all : (f : List ℕ) → digits f ≡ list_all digit f
unfolding digits
digits_all [] = refl
digits_all (x ∷ f) = ap (λ (t : Bool). digit x && t) (digits_all f)

-- a number that fits is read as it is
pub checked_read : (o : Option ℕ) (w : ℕ) → SomeIff o (w < 65536) w → number_read (ok_or o TooHigh) ≡ capped w
checked_read (Some v) w h = h.1 ∙ sym (capped_small w (omega arith))
checked_read None w h = sym (capped_big w (omega arith))

pub checked_ok : (o : Option ℕ) (P : Type 0) (w v : ℕ) → SomeIff o P w → Ok v ≡ ok_or o TooHigh → v ≡ w
checked_ok (Some x) P w v h e = let q : v ≡ x = cc in q ∙ h.1
checked_ok None P w v h e = cc

pub too_high_read : (e : Unread) (n : ℕ) → e ≡ TooHigh → number_read (Err e) ≡ n → n ≡ too_high
too_high_read e n i q = sym q ∙ rw i

pub no_number_read : (e : Unread) (n : ℕ) → e ≡ NoNumber → number_read (Err e) ≡ n → n ≡ no_number
no_number_read e n i q = sym q ∙ rw i

-- what is refused is too high
pub refused_high : (e : Unread) (w : ℕ) → number_read (Err e) ≡ capped w → (most_state < w) × (most_state < number_read (Err e))
refused_high e w q = (by_case (dec_lt most_state w), above e)
  where
    above : (u : Unread) → most_state < number_read (Err u)
    above NoNumber = omega arith
    above TooHigh = omega arith

    by_case : Dec (most_state < w) → most_state < w
    by_case (yes h) = h
    by_case (no h) = let k : w ≤ most_state = omega (arith, h) in let c = capped_small w k in let a = above e in absurd (omega arith)

-- how far the reading of a number has come
pub record Digits (f : List ℕ) (v i : ℕ) : Type 0 where
  pub some : length f ≡ 0 → ⊥
  pub whole : digits f ≡ true
  pub within : i ≤ length f
  pub top : v ≤ too_high
  pub good : digits (drop i f) ≡ true
  pub worth : capped (value_from v (drop i f)) ≡ capped (value f)

pub digits_start : (f : List ℕ) → (length f ≡ 0 → ⊥) → list_all digit f ≡ true → Digits f 0 0
unfolding value
digits_start f h e = record { some = h; whole = digits_all f ∙ e; within = omega arith; top = omega arith; good = digits_all f ∙ e; worth = refl }

pub number_none : (f : List ℕ) → length f ≡ 0 → no_number ≡ read_number f
unfolding read_number is_number
number_none f h = simp (eq-eqb _ _ h)

pub number_bad : (f : List ℕ) → (length f ≡ 0 → ⊥) → list_all digit f ≡ false → no_number ≡ read_number f
unfolding read_number is_number
number_bad f h e = simp (ne_eqb _ _ h, digits_all f ∙ e)

module _ (f : List ℕ) (v i : ℕ) (p : Digits f v i) where
  digits_here : i < length f → (digit (get_or f i 0) && digits (drop (i + 1) f)) ≡ true
  unfolding digits
  digits_here h = ap digits (sym (drop_one f i h)) ∙ p.good

  pub digits_more : i < length f → (w : ℕ) → w ≡ capped (v * 10 + (get_or f i 0 - digit_zero)) → Digits f w (i + 1)
  unfolding value_from
  digits_more h w e =
      record {
        some = p.some;
        whole = p.whole;
        within = omega arith;
        top = rw e (capped_top _);
        good = and_right (digit (get_or f i 0)) _ (digits_here h);
        worth = rw e (capped_in (v * 10 + (get_or f i 0 - digit_zero)) (drop (i + 1) f)) ∙ ap (λ (l : List ℕ). capped (value_from v l)) (sym (drop_one f i h))
            ∙ p.worth;
      }

  number_is : read_number f ≡ capped (value f)
  unfolding read_number is_number
  number_is = simp (ne_eqb _ _ p.some, p.whole)

  -- at the end the number is read; past the highest it is too high, whatever digits follow
  pub number_end : length f ≤ i → v ≡ read_number f
  unfolding value_from
  number_end h =
      let w : capped v ≡ capped (value f) = ap (λ (l : List ℕ). capped (value_from v l)) (sym (drop_none f i p.within h)) ∙ p.worth in
      sym (capped_fix v p.top) ∙ w ∙ sym number_is

  pub number_high : most_state < v → v ≡ read_number f
  number_high h =
      let g = value_grows (drop i f) v in
      let w : too_high ≡ capped (value f) = sym (capped_big _ (omega arith)) ∙ p.worth in
      let t = p.top in
      let e : v ≡ too_high = omega arith in
      e ∙ w ∙ sym number_is

-- the front and the rest as the code cuts them
pub front_length : (b : ℕ) (s : List ℕ) (e : ℕ) → e ≡ length (before b s) → e ≡ length (take e s)
front_length b s e q = rw q (sym (ap length (before_take b s)))

pub front_is : (b : ℕ) (s : List ℕ) (e : ℕ) → e ≡ length (before b s) → take e s ≡ before b s
front_is b s e q = rw q (before_take b s)

pub rest_cut : (b : ℕ) (s : List ℕ) (e : ℕ) → e ≡ length (before b s) → (r : Option (Bor (List ℕ)))
    → MatchOption r ((length s < e + 1) ⊎ (length s < length s))
    (λ x. (e + 1 ≤ length s) × (length s ≤ length s) × (x.now ≡ slice_range s (e + 1) (length s)) × (length x.now + (e + 1) ≡ length s))
    → (d : Bor (List ℕ)) → d.now ≡ [] → (unwrap_or r d).now ≡ past b s
rest_cut b s e q (Some x) h d z =
    let k : length (drop (e + 1) s) ≤ length s - (e + 1) = simp length-drop (omega arith) in
    let m : drop (e + 1) s ≡ past b s = rw (add-one, q) (past_drop b s) in
    h.2 ∙ take_all _ _ k ∙ m
rest_cut b s e q None h d z = z ∙ sym (past_none b s (⊎_elim (λ k. omega arith) (λ k. omega arith) h))
