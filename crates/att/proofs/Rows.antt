-- A line read by its fields' numbers is the line that the definition reads.
use Prim.Native.Nat.{ℕ, ◌+◌, ◌-◌, ◌≤◌, ◌<◌}
use mathlib.Core.Logic.{◌⊎◌, inl, inr}
use mathlib.Core.Path.{◌≡◌, refl, ap, sym, ◌∙◌}
use mathlib.Core.List.{List}
use mathlib.Core.Bool.{Bool, true, false, ◌&&◌, ◌||◌, not, cond}
use native.Mathlib.Omega.{arith}
use native.Mathlib.Decide.{dec_lt}
use lib.Dec.{eqb, leb, ltb}
use lib.ListN.{length, take, drop, length-drop}
use lib.Seq.{take_all}
use borrow.Author.Tests.{eq-eqb, ne_eqb, le-leb, lt-leb, lt-ltb, le-ltb}
use Rattle.att.specs.Fields.{tab, before, past, field_count, field1, field2, field3, is_number, value, most_state}
use Rattle.att.specs.Reading.{labels, is_state, faulty, final_line, arc_line, pick_line, line_in, line_of, line_at}
use Rattle.att.specs.Numbers.{no_number, capped, read_number, final_of, arc_of}
use Rattle.att.specs.Line.{Line, End, Final, Arc, Faulty}
use Rattle.att.specs.Text.{Said, arc, final}
use Rattle.att.specs.Results.{line_saying, line_read}
use Rattle.att.specs.declared.reading.Line as heard
use Rattle.book.specs.declared.replies.Reason.{Reason}
use Rattle.std.specs.Prelude.{Result}
use Rattle.att.proofs.Parting.{capped_small, capped_big, front_length, front_is}

-- a field that is a number or not, of value v
abbrev read : Bool → ℕ → ℕ
read t v = cond t (capped v) 65537

state_read : (t : Bool) (v : ℕ) (rest : ℕ → Line) → faulty (ltb 65535 (read t v)) 18 (rest (read t v)) ≡ faulty (not (t && leb v 65535)) 18 (rest v)
state_read false v rest = refl
state_read true v rest = by_case (dec_lt 65535 v)
  where
    by_case : Dec (65535 < v) → faulty (ltb 65535 (capped v)) 18 (rest (capped v)) ≡ faulty (not (leb v 65535)) 18 (rest v)
    by_case (yes k) = rw (capped_big v k, lt-leb v 65535 k)
    by_case (no k) = let h : v ≤ 65535 = omega (arith, k) in rw (capped_small v h, le-ltb 65535 v h, le-leb v 65535 h)

label_tests : (v : ℕ) (good : Line) → faulty (eqb v 0) 19 (faulty (ltb labels v) 19 good) ≡ faulty (not (leb 1 v && leb v labels)) 19 good
label_tests v good = by_case (dec_lt 0 v) (dec_lt labels v)
  where
    by_case : Dec (0 < v) → Dec (labels < v) → faulty (eqb v 0) 19 (faulty (ltb labels v) 19 good) ≡ faulty (not (leb 1 v && leb v labels)) 19 good
    by_case (no k) d = let h : v ≡ 0 = omega (arith, k) in rw h
    by_case (yes k) (yes m) = simp (ne_eqb v 0 (omega arith), lt-ltb labels v m, lt-leb v labels m, le-leb 1 v (omega arith))
    by_case (yes k) (no m) = let h : v ≤ labels = omega (arith, m) in simp
        (ne_eqb v 0 (omega arith), le-ltb labels v h, le-leb v labels h, le-leb 1 v (omega arith))

abbrev labelled : ℕ → (ℕ → Line) → Line
labelled k rest = faulty (eqb k 65537) 18 (faulty (eqb k 0) 19 (faulty (ltb labels k) 19 (rest k)))

label_read : (t : Bool) (v : ℕ) (rest : ℕ → Line) → labelled (read t v) rest ≡ faulty (not t) 18 (faulty (not (leb 1 v && leb v labels)) 19 (rest v))
label_read false v rest = refl
label_read true v rest = by_case (dec_lt 65535 v)
  where
    by_case : Dec (65535 < v) → labelled (capped v) rest ≡ faulty (not (leb 1 v && leb v labels)) 19 (rest v)
    by_case (yes k) = rw (capped_big v k) (simp (le-leb 1 v (omega arith), lt-leb v labels (omega arith)))
    by_case (no k) = let h : v ≤ 65535 = omega (arith, k) in rw (capped_small v h, ne_eqb v 65537 (omega arith)) (label_tests v (rest v))

pub final_read : (l : List ℕ) (next : ℕ) → final_of (read_number (field1 l)) next ≡ final_line l next
unfolding final_of final_line read_number
final_read l next = state_read (is_number (field1 l)) (value (field1 l)) (λ (a : ℕ). Final a next)

pub arc_read : (l : List ℕ) (next : ℕ) → arc_of (read_number (field1 l)) (read_number (field2 l)) (read_number (field3 l)) next ≡ arc_line l next
unfolding arc_of arc_line read_number
arc_read l next =
    let t = is_number (field2 l) in
    let v = value (field2 l) in
    let u = is_number (field3 l) in
    let w = value (field3 l) in
    state_read (is_number (field1 l)) (value (field1 l)) (λ (a : ℕ). faulty (ltb 65535 (read t v)) 18
    (labelled (read u w) (λ (k : ℕ). Arc a (read t v) (k - 1) next)))
    ∙ ap (faulty (not (is_state (field1 l))) 18)
    (state_read t v (λ (b : ℕ). labelled (read u w) (λ (k : ℕ). Arc (value (field1 l)) b (k - 1) next))
    ∙ ap (faulty (not (is_state (field2 l))) 18) (label_read u w (λ (k : ℕ). Arc (value (field1 l)) v (k - 1) next)))

-- the line of one field, and of three, as the code cuts them
pub final_cut : (l f : List ℕ) (next : ℕ) → f ≡ before tab l → final_of (read_number f) next ≡ final_line l next
final_cut l f next e = rw e (final_read l next)

pub arc_cut : (l f r g s h : List ℕ) (next : ℕ) → f ≡ before tab l → r ≡ past tab l → g ≡ before tab r → s ≡ past tab r → h ≡ before tab s
    → arc_of (read_number f) (read_number g) (read_number h) next ≡ arc_line l next
arc_cut l f r g s h next i j k m n = rw (n, m, k, j, i) (arc_read l next)

-- the rest of the text as the code cuts it
rest_of : (s : List ℕ) (at : ℕ) → take (length s - at) (drop at s) ≡ drop at s
rest_of s at = let h : length (drop at s) ≤ length s - at = simp length-drop (omega arith) in take_all _ _ h

-- a line without its newline is faulty
pub open_faulty : (l : List ℕ) (next : ℕ) (s : Said) → line_saying s next ≡ line_in l false next → ⊥
unfolding line_in
open_faulty l next s e = by_test (eqb (field_count l) 2 || eqb (field_count l) 4) s e
  where
    by_test : (t : Bool) (s : Said) → line_saying s next ≡ faulty t 20 (Faulty 18) → ⊥
    by_test true (final x) q = cc
    by_test true (arc x y a) q = cc
    by_test false (final x) q = cc
    by_test false (arc x y a) q = cc

open_same : (l : List ℕ) (a b : ℕ) → line_in l false a ≡ line_in l false b
unfolding line_in
open_same l a b = refl

-- the text is read at the place `at`, which is in it; e is how many bytes its line has
pub line_none : (s : List ℕ) (at : ℕ) → length s ≤ at → End ≡ line_at s at
unfolding line_at
line_none s at h = sym (rw (line_at, le-leb (length s) at h))

module _ (s : List ℕ) (at : ℕ) (inside : at < length s) (e : ℕ) (q : e ≡ length (before 10 (take (length s - at) (drop at s)))) where
  abbrev rest : List ℕ
  rest = take (length s - at) (drop at s)

  pub line_length_lem : e ≡ length (take e rest)
  line_length_lem = front_length 10 _ e q

  line_front : take e rest ≡ line_of (drop at s)
  line_front = front_is 10 _ e q ∙ ap (before 10) (rest_of s at)

  line_e : e ≡ length (line_of (drop at s))
  line_e = q ∙ ap (λ (l : List ℕ). length (before 10 l)) (rest_of s at)

  -- the line in the code's words
  line_read_at : line_in (take e rest) (ltb e (length rest)) (at + e + 1) ≡ line_at s at
  unfolding line_at
  line_read_at = by_case (dec_lt e (length rest))
    where
      by_case : Dec (e < length rest) → line_in (take e rest) (ltb e (length rest)) (at + e + 1) ≡ line_at s at
      by_case (yes h) =
          let z : length (line_of (drop at s)) < length (drop at s) = rw (← line_e, ← rest_of s at) h in
          rw (lt-ltb _ _ h, line_front, line_e) (simp (lt-leb _ _ inside, lt-ltb _ _ z))
      by_case (no h) =
          let m : length rest ≤ e = omega (arith, h) in
          let z : length (drop at s) ≤ length (line_of (drop at s)) = rw (← line_e, ← rest_of s at) m in
          rw (le-ltb _ _ m, line_front) (open_same _ _ 0 ∙ simp (lt-leb _ _ inside, le-ltb _ _ z))

  pub line_step : (r : Result heard.Line Reason) → ((next : ℕ) → line_read r next ≡ line_in (take e rest) (ltb e (length rest)) next)
      → line_read r (at + e + 1) ≡ line_at s at
  line_step r f = f (at + e + 1) ∙ line_read_at

  -- a good line has its newline, and the next place is inside the text
  pub next_within : (l : Said) → line_saying l 0 ≡ line_in (take e rest) (ltb e (length rest)) 0 → at + e + 1 ≤ length s
  next_within l f = by_case (dec_lt e (length rest))
    where
      by_case : Dec (e < length rest) → at + e + 1 ≤ length s
      by_case (yes k) = let h : length rest ≡ length s - at = rw (rest_of s at) (length-drop at s) in omega arith
      by_case (no k) = let m : length rest ≤ e = omega (arith, k) in absurd (open_faulty (take e rest) 0 l (rw (← le-ltb _ _ m) f))

-- ---- the ways out of `line_in`, by the number of fields
module _ (l : List ℕ) (t : Bool) (next n : ℕ) (q : n ≡ field_count l) where
  pub line_even : (n ≡ 2) ⊎ ((n ≡ 2 → ⊥) × (n ≡ 4)) → Faulty 20 ≡ line_in l t next
  unfolding line_in
  line_even (inl h) = sym (rw (line_in, ← q, eq-eqb n 2 h))
  line_even (inr h) = sym (rw (line_in, ← q, ne_eqb n 2 h.0, eq-eqb n 4 h.1))

  pub line_two : n ≡ 2 → Faulty 20 ≡ line_in l t next
  line_two h = line_even (inl h)

  pub line_four : (n ≡ 2 → ⊥) → n ≡ 4 → Faulty 20 ≡ line_in l t next
  line_four two h = line_even (inr (two, h))

  module _ (two : n ≡ 2 → ⊥) (four : n ≡ 4 → ⊥) where
    line_fields : line_in l t next ≡ faulty (not t) 18 (pick_line (eqb n 1) (final_line l next) (pick_line (eqb n 3) (arc_line l next) (Faulty 18)))
    unfolding line_in
    line_fields = rw (line_in, ← q, ne_eqb n 2 two, ne_eqb n 4 four)

    pub line_open : t ≡ false → Faulty 18 ≡ line_in l t next
    line_open e = sym (line_fields ∙ rw e)

    pub line_final : t ≡ true → n ≡ 1 → final_line l next ≡ line_in l t next
    line_final e h = sym (line_fields ∙ rw (e, eq-eqb n 1 h))

    pub line_arc : t ≡ true → (n ≡ 1 → ⊥) → n ≡ 3 → arc_line l next ≡ line_in l t next
    line_arc e k h = sym (line_fields ∙ rw (e, ne_eqb n 1 k, eq-eqb n 3 h))

    pub line_other : t ≡ true → (n ≡ 1 → ⊥) → (n ≡ 3 → ⊥) → Faulty 18 ≡ line_in l t next
    line_other e k h = sym (line_fields ∙ rw (e, ne_eqb n 1 k, ne_eqb n 3 h))

-- ---- the ways out of `final_of`
module _ (a next : ℕ) where
  pub final_high : most_state < a → Faulty 18 ≡ final_of a next
  unfolding final_of
  final_high h = sym (rw (final_of, lt-ltb most_state a h))

  pub final_whole : (x : ℕ) → x ≡ a → x ≤ most_state → Final x next ≡ final_of a next
  unfolding final_of
  final_whole x e h = let k : a ≤ most_state = omega arith in rw e (sym (rw (final_of, le-ltb most_state a k)))

-- ---- the ways out of `arc_of`
module _ (a b k next : ℕ) where
  pub arc_from : most_state < a → Faulty 18 ≡ arc_of a b k next
  unfolding arc_of
  arc_from h = sym (rw (arc_of, lt-ltb most_state a h))

  module _ (low : a ≤ most_state) where
    pub arc_to : most_state < b → Faulty 18 ≡ arc_of a b k next
    unfolding arc_of
    arc_to h = sym (rw (arc_of, le-ltb most_state a low, lt-ltb most_state b h))

    module _ (low' : b ≤ most_state) where
      pub arc_none : k ≡ no_number → Faulty 18 ≡ arc_of a b k next
      unfolding arc_of
      arc_none h = sym (rw (arc_of, le-ltb most_state a low, le-ltb most_state b low', eq-eqb k no_number h))

      module _ (some : k ≡ no_number → ⊥) where
        pub arc_empty : k ≡ 0 → Faulty 19 ≡ arc_of a b k next
        unfolding arc_of
        arc_empty h = sym (rw (arc_of, le-ltb most_state a low, le-ltb most_state b low', ne_eqb k no_number some, eq-eqb k 0 h))

        pub arc_high : (k ≡ 0 → ⊥) → labels < k → Faulty 19 ≡ arc_of a b k next
        unfolding arc_of
        arc_high z h = sym (rw (arc_of, le-ltb most_state a low, le-ltb most_state b low', ne_eqb k no_number some, ne_eqb k 0 z, lt-ltb labels k h))

        pub arc_whole : (k ≡ 0 → ⊥) → k ≤ labels → Arc a b (k - 1) next ≡ arc_of a b k next
        unfolding arc_of
        arc_whole z h = sym (rw (arc_of, le-ltb most_state a low, le-ltb most_state b low', ne_eqb k no_number some, ne_eqb k 0 z, le-ltb labels k h))

pub arc_good : (a b k next x y l : ℕ) → x ≡ a → x ≤ most_state → y ≡ b → y ≤ most_state → l ≡ k → (l ≡ 0 → ⊥) → l ≤ labels
    → Arc x y (l - 1) next ≡ arc_of a b k next
arc_good a b k next x y l p h q i r z m = rw (p, q, r) (arc_whole a b k next (omega arith) (omega arith) (omega arith) (omega arith) (omega arith))
