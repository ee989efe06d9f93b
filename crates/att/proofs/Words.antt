-- The words of the part that is written are the words of the text.
use Prim.Native.Nat.{ℕ, zero, suc, ◌+◌, ◌-◌, ◌≤◌, ◌<◌}
use mathlib.Core.Path.{◌≡◌, refl, ap, ap₂, sym, ◌∙◌, subst}
use mathlib.Core.List.{List, [], ◌∷◌, ◌++◌}
use mathlib.Core.Bool.{Bool, true, false, ◌&&◌, ◌||◌, cond}
use mathlib.Core.Bool as B
use native.Mathlib.Omega.{arith}
use native.Mathlib.Decide.{dec_lt, ℕ_discrete}
use lib.Dec.{eqb, leb}
use lib.ListN.{length, get_or, get_or-eq_default}
use borrow.Author.Tests.{eq-eqb, ne_eqb, le-leb, lt-leb, lt-ltb}
use Rattle.book.specs.Format.{start_flag, accept_flag}
use Rattle.book.specs.Reading.{State, Arc, Book}
use Rattle.book.specs.Language.{any, up_from, opens, leads, no_state, state_of, flagged, is_start, is_accept, some_state, accepts}
use Rattle.att.specs.Text.{Said, arc, final, idx, add, add_line, names_from, names, is_final, accept, flags_from, flags, state_count}
use Rattle.att.specs.Words.{through, text_from, first_state, text_words}
use Rattle.att.specs.Placed.{mine, leaves, part_arcs, Holds}
use Rattle.book.proofs.Idx.{idx_at, idx_same, idx_other}
use Rattle.att.proofs.Names.{add_in, add_new}
use Rattle.book.proofs.Idx.{idx_append}
use Rattle.att.proofs.Appearing.{In, in_add, in_keep, in_names}
use Rattle.att.proofs.Flags.{flags_long, names_few}
use Rattle.att.proofs.Filling.{fresh_some}
use Rattle.book.proofs.Some.{any_ext, any_append, any_none, any_apart, any_swap, any_one}

-- the word leads from p to a state that passes
ends : List Arc → (ℕ → Bool) → List ℕ → ℕ → Bool
ends arcs acc [] p = acc p
ends arcs acc (a ∷ w) p = any (λ (x : Arc). opens x p a && ends arcs acc w x.to) arcs

-- every state that passes is below n
module _ (arcs : List Arc) (acc : ℕ → Bool) (n : ℕ) (top : (q : ℕ) → n ≤ q → acc q ≡ false) where
  stop_is : (p : ℕ) → any (λ (q : ℕ). acc q && eqb p q) (up_from 0 n) ≡ acc p
  stop_is p = by_case (dec_lt p n)
    where
      other : (j : ℕ) → (j ≡ p → ⊥) → (acc j && eqb p j) ≡ false
      other j h = ap (λ (t : Bool). acc j && t) (ne_eqb p j (λ e. h (sym e))) ∙ B.and-false (acc j)

      none : acc p ≡ false → (j : ℕ) → Dec (j ≡ p) → (acc j && eqb p j) ≡ false
      none z j (yes e) = ap (λ (t : Bool). t && eqb p j) (ap acc e ∙ z)
      none z j (no e) = other j e

      by_case : Dec (p < n) → any (λ (q : ℕ). acc q && eqb p q) (up_from 0 n) ≡ acc p
      by_case (yes h) = any_one (λ (q : ℕ). acc q && eqb p q) p other 0 n (omega arith) (omega arith) ∙ ap (λ (t : Bool). acc p && t) (eq-eqb p p refl)
          ∙ B.and-true (acc p)
      by_case (no h) =
          let z : acc p ≡ false = top p (omega (arith, h)) in
          any_none (λ (q : ℕ). acc q && eqb p q) (λ j. none z j (ℕ_discrete j p)) (up_from 0 n) ∙ sym z

  ends_is : (w : List ℕ) (p : ℕ) → any (λ (q : ℕ). acc q && leads arcs p w q) (up_from 0 n) ≡ ends arcs acc w p
  unfolding leads ends
  ends_is [] p = stop_is p
  ends_is (a ∷ w) p =
      any_swap acc (λ (x : Arc). opens x p a) (λ (x : Arc) (q : ℕ). leads arcs x.to w q) arcs (up_from 0 n)
      ∙ any_ext (λ (x : Arc). opens x p a && any (λ (q : ℕ). acc q && leads arcs x.to w q) (up_from 0 n))
      (λ (x : Arc). opens x p a && ends arcs acc w x.to)
      (λ x. ap (λ (t : Bool). opens x p a && t) (ends_is w x.to)) arcs

-- numbers of states that are among the names
number_same : (S : List ℕ) (x y : ℕ) → In S x → In S y → idx S x ≡ idx S y → x ≡ y
number_same S x y h k e = sym (idx_at S x h) ∙ ap (λ (i : ℕ). get_or S i 0) e ∙ idx_at S y k

eqb_idx : (first : ℕ) (S : List ℕ) (x y : ℕ) → In S x → In S y → eqb (first + idx S x) (first + idx S y) ≡ eqb x y
eqb_idx first S x y h k = by_case (ℕ_discrete x y)
  where
    by_case : Dec (x ≡ y) → eqb (first + idx S x) (first + idx S y) ≡ eqb x y
    by_case (yes e) = eq-eqb _ _ (ap (λ (z : ℕ). first + idx S z) e) ∙ sym (eq-eqb x y e)
    by_case (no e) = ne_eqb (first + idx S x) (first + idx S y) (λ q. e (number_same S x y h k (omega arith))) ∙ sym (ne_eqb x y e)

leb_both : (b a : ℕ) → (leb b a && leb a b) ≡ eqb b a
leb_both b a = by_case (dec_lt a b) (dec_lt b a)
  where
    by_case : Dec (a < b) → Dec (b < a) → (leb b a && leb a b) ≡ eqb b a
    by_case (yes h) d = simp (lt-leb b a h, ne_eqb b a (λ e. (let w : ⊥ = omega arith in w)))
    by_case (no h) (yes k) = simp (lt-leb a b k, ne_eqb b a (λ e. (let w : ⊥ = omega arith in w))) (B.and-false (leb b a))
    by_case (no h) (no k) = simp (le-leb b a (omega (arith, h)), le-leb a b (omega (arith, k)), eq-eqb b a (omega (arith, h, k)))

-- every state of the lines is among the names
abbrev pub Named : List ℕ → List Said → Type 0
Named S [] = Unit {0}
Named S (arc x y a ∷ ls) = (In S x × In S y) × Named S ls
Named S (final x ∷ ls) = In S x × Named S ls

pub named_from : (S : List ℕ) (ls : List Said) → Named (names_from S ls) ls
unfolding names_from
named_from S [] = tt
named_from S (arc x y a ∷ ls) = (
  (
    in_names (add (add S x) y) x ls (in_keep (add S x) x y (in_add S x)),
    in_names (add (add S x) y) y ls
        (in_add (add S x) y),
  ),
  named_from (add (add S x) y) ls,
)
named_from S (final x ∷ ls) = (in_names (add S x) x ls (in_add S x), named_from (add S x) ls)

-- flags
abbrev lead : ℕ → ℕ → ℕ
lead start zero = start
lead start (suc i) = 0

flag_from : (start : ℕ) (ls : List Said) (S : List ℕ) (p : ℕ) → In S p → get_or (flags_from start ls S) (idx S p) 0 ≡ lead start (idx S p) + accept ls p
flag_from start ls [] p h = let w : ⊥ = omega arith in absurd w
flag_from start ls (x ∷ S) p h = by_case (ℕ_discrete x p) (λ k. flag_from 0 ls S p k)
  where
    none : (i : ℕ) → lead 0 i ≡ lead start (suc i)
    none zero = refl
    none (suc i) = refl

    by_case : Dec (x ≡ p) → (In S p → get_or (flags_from 0 ls S) (idx S p) 0 ≡ lead 0 (idx S p) + accept ls p)
        → get_or (flags_from start ls (x ∷ S)) (idx (x ∷ S) p) 0 ≡ lead start (idx (x ∷ S) p) + accept ls p
    by_case (yes e) f = rw (idx_same x S p e) (ap (λ (q : ℕ). start + accept ls q) e)
    by_case (no e) f = let m = idx_other x S p e in rw m (f (omega arith) ∙ ap (λ (i : ℕ). i + accept ls p) (none (idx S p)))

flag_at : (ls : List Said) (S : List ℕ) (p : ℕ) → In S p → get_or (flags ls S) (idx S p) 0 ≡ lead 1 (idx S p) + accept ls p
unfolding flags
flag_at ls [] p h = let w : ⊥ = omega arith in absurd w
flag_at ls (x ∷ S) p h = flag_from 1 ls (x ∷ S) p h

accept_flag_lem : (i : ℕ) (t : Bool) → flagged accept_flag (lead 1 i + cond t 2 0) ≡ t
unfolding flagged
accept_flag_lem zero true = refl
accept_flag_lem zero false = refl
accept_flag_lem (suc i) true = refl
accept_flag_lem (suc i) false = refl

start_head : (t : Bool) → flagged start_flag (1 + cond t 2 0) ≡ true
unfolding flagged
start_head true = refl
start_head false = refl

start_tail : (ls : List Said) (S : List ℕ) (i : ℕ) → flagged start_flag (get_or (flags_from 0 ls S) i 0) ≡ false
unfolding flagged
start_tail ls [] i = refl
start_tail ls (x ∷ S) zero = by_test (is_final ls x)
  where
    by_test : (t : Bool) → flagged start_flag (0 + cond t 2 0) ≡ false
    by_test true = refl
    by_test false = refl
start_tail ls (x ∷ S) (suc i) = start_tail ls S i

module _ (b : Book) (r k first : ℕ) (ls : List Said) (h : Holds b r k first ls) where
  abbrev S : List ℕ
  S = names ls

  -- past the last state there is none with a flag
  has_none : (s flag : ℕ) → flagged flag 0 ≡ false → length b.states ≤ s
      → (eqb (state_of b s).rule r && (eqb (state_of b s).part k && flagged flag (state_of b s).flags)) ≡ false
  has_none s flag z l =
      let e : flagged flag (state_of b s).flags ≡ false = ap (λ (st : State). flagged flag st.flags) (get_or-eq_default b.states no_state l) ∙ z in
      rw (e, B.and-false (eqb (state_of b s).part k)) (B.and-false (eqb (state_of b s).rule r))

  some : 1 ≤ state_count ls
  some = let a = flags_long ls S in let d = fresh_some (length S) in omega arith

  own : (i : ℕ) → i < state_count ls → mine b r k (first + i) ≡ true
  own i l = ap₂ (λ (s t : Bool). s && t) (eq-eqb _ r (h.rule i l)) (eq-eqb _ k (h.of i l))

  -- a flag of a state of the part
  has : (s flag : ℕ) → (eqb (state_of b s).rule r && (eqb (state_of b s).part k && flagged flag (state_of b s).flags))
      ≡ (mine b r k s && flagged flag (state_of b s).flags)
  has s flag = sym (B.and_assoc (eqb (state_of b s).rule r) (eqb (state_of b s).part k) (flagged flag (state_of b s).flags))

  has_own : (i flag : ℕ) → i < state_count ls
      → (eqb (state_of b (first + i)).rule r && (eqb (state_of b (first + i)).part k && flagged flag (state_of b (first + i)).flags))
      ≡ flagged flag (get_or (flags ls S) i 0)
  has_own i flag l = has (first + i) flag ∙ ap₂ (λ (s t : Bool). s && t) (own i l) (ap (flagged flag) (h.flag i l))

  has_other : (s flag : ℕ) → mine b r k s ≡ false → (eqb (state_of b s).rule r && (eqb (state_of b s).part k && flagged flag (state_of b s).flags)) ≡ false
  has_other s flag e = has s flag ∙ ap (λ (t : Bool). t && flagged flag (state_of b s).flags) e

  accept_is : (p : ℕ) → In S p → is_accept b r k (first + idx S p) ≡ is_final ls p
  unfolding is_accept
  accept_is p m =
      let e = names_few ls in
      let l : idx S p < state_count ls = omega arith in
      has_own (idx S p) accept_flag l ∙ ap (flagged accept_flag) (flag_at ls S p m) ∙ accept_flag_lem (idx S p) (is_final ls p)

  accept_top : (q : ℕ) → length b.states ≤ q → is_accept b r k q ≡ false
  unfolding is_accept flagged
  accept_top q l = has_none q accept_flag refl l

  abbrev acc : ℕ → Bool
  acc = is_accept b r k

  -- an arc of another part does not leave this one
  away : (w : List ℕ) (a p : ℕ) → In S p → (x : Arc) → leaves first (state_count ls) x ≡ false
      → (opens x (first + idx S p) a && ends b.arcs acc w x.to) ≡ false
  away w a p m x e = by_case (ℕ_discrete x.from (first + idx S p))
    where
      by_case : Dec (x.from ≡ first + idx S p) → (opens x (first + idx S p) a && ends b.arcs acc w x.to) ≡ false
      by_case (yes q) =
          let n = names_few ls in
          let i : first ≤ x.from = omega arith in
          let j : x.from < first + state_count ls = omega arith in
          let z : true ≡ false = sym (simp (le-leb first x.from i, lt-ltb x.from (first + state_count ls) j)) ∙ e in cc
      by_case (no q) = simp (ne_eqb x.from (first + idx S p) q)

  -- the arcs that were written, against the lines
  module _ (w : List ℕ) (a p : ℕ) (m : In S p) (on : (y : ℕ) → In S y → ends b.arcs acc w (first + idx S y) ≡ text_from ls w y) where
    abbrev F : Arc → Bool
    F x = opens x (first + idx S p) a && ends b.arcs acc w x.to

    arc_same : (x y c : ℕ) → In S x → In S y → F (record { from = first + idx S x; low = c; high = c; to = first + idx S y })
        ≡ through (arc x y c) p a (text_from ls w)
    arc_same x y c u v = rw (eqb_idx first S x p u m, leb_both c a, on y v)

    arcs_same : (ms : List Said) → Named S ms → any F (part_arcs first S ms) ≡ any (λ (l : Said). through l p a (text_from ls w)) ms
    unfolding part_arcs
    arcs_same [] n = refl
    arcs_same (arc x y c ∷ ms) n = rw (arc_same x y c n.0.0 n.0.1, arcs_same ms n.1)
    arcs_same (final x ∷ ms) n = arcs_same ms n.1

    all_same : any F b.arcs ≡ any (λ (l : Said). through l p a (text_from ls w)) ls
    unfolding names
    all_same =
        ap (any F) h.arcs
        ∙ any_append F h.early (part_arcs first S ls ++ h.late)
        ∙ ap (λ (t : Bool). t || any F (part_arcs first S ls ++ h.late)) (any_apart F _ (away w a p m) h.early h.apart)
        ∙ any_append F (part_arcs first S ls) h.late
        ∙ ap (λ (t : Bool). any F (part_arcs first S ls) || t) (any_apart F _ (away w a p m) h.late h.aside)
        ∙ B.or-false (any F (part_arcs first S ls))
        ∙ arcs_same ls (named_from [] ls)

  text_is : (w : List ℕ) (p : ℕ) → In S p → ends b.arcs acc w (first + idx S p) ≡ text_from ls w p
  unfolding text_from ends
  text_is [] p m = accept_is p m
  text_is (a ∷ w) p m = all_same w a p m (λ y n. text_is w y n)

-- the first line's first state has number 0
idx_keep : (S : List ℕ) (x y : ℕ) → In S x → idx (add S y) x ≡ idx S x
idx_keep S x y h = by_case (dec_lt (idx S y) (length S))
  where
    by_case : Dec (In S y) → idx (add S y) x ≡ idx S x
    by_case (yes k) = rw (add_in S y k)
    by_case (no k) = let n : length S ≤ idx S y = omega (arith, k) in rw (add_new S y n) (idx_append S (y ∷ []) x h)

idx_line : (S : List ℕ) (x : ℕ) (l : Said) → In S x → (idx (add_line S l) x ≡ idx S x) × In (add_line S l) x
idx_line S x (arc y z a) h = (idx_keep (add S y) x z (in_keep S x y h) ∙ idx_keep S x y h, in_keep (add S y) x z (in_keep S x y h))
idx_line S x (final y) h = (idx_keep S x y h, in_keep S x y h)

idx_names : (S : List ℕ) (x : ℕ) (ls : List Said) → In S x → idx (names_from S ls) x ≡ idx S x
unfolding names_from
idx_names S x [] h = refl
idx_names S x (l ∷ ls) h = let p = idx_line S x l h in idx_names (add_line S l) x ls p.1 ∙ p.0

idx_alone : (x : ℕ) → (idx (add [] x) x ≡ 0) × In (add [] x) x
unfolding idx
idx_alone x = let e = idx_same x [] x refl in (rw (add_new [] x (omega arith)) e, in_add [] x)

first_zero : (l : Said) (ls : List Said) → (idx (names (l ∷ ls)) (first_state l) ≡ 0) × In (names (l ∷ ls)) (first_state l)
unfolding names names_from
first_zero (arc x y a) ls =
    let p = idx_alone x in
    let i = in_keep (add [] x) x y p.1 in
    (idx_names (add (add [] x) y) x ls i ∙ idx_keep (add [] x) x y p.1 ∙ p.0, in_names (add (add [] x) y) x ls i)
first_zero (final x) ls = let p = idx_alone x in (idx_names (add [] x) x ls p.1 ∙ p.0, in_names (add [] x) x ls p.1)

start_later : (ls : List Said) (S : List ℕ) (i : ℕ) → flagged start_flag (get_or (flags ls S) (suc i) 0) ≡ false
unfolding flags flagged
start_later ls [] i = refl
start_later ls (x ∷ S) i = start_tail ls S i

module _ (b : Book) (r k first : ℕ) (ls : List Said) (h : Holds b r k first ls) where
  not_mine : (s : ℕ) → mine b r k s ≡ false → is_start b r k s ≡ false
  unfolding is_start
  not_mine s e = has_other b r k first ls h s start_flag e

  start_none : (s : ℕ) → length b.states ≤ s → is_start b r k s ≡ false
  unfolding is_start flagged
  start_none s l = has_none b r k first ls h s start_flag refl l

  flag_start : (s i : ℕ) → s ≡ first + i → i < state_count ls → flagged start_flag (get_or (flags ls (names ls)) i 0) ≡ false → is_start b r k s ≡ false
  unfolding is_start
  flag_start s i e l z = rw e (has_own b r k first ls h i start_flag l ∙ z)

  start_other : (s : ℕ) → (s ≡ first → ⊥) → is_start b r k s ≡ false
  start_other s n = by_case (dec_lt s first) (dec_lt s (first + state_count ls))
    where
      past : first + state_count ls ≤ s → Dec (s < length b.states) → is_start b r k s ≡ false
      past o (yes l) = not_mine s (h.above s o l)
      past o (no l) = start_none s (omega (arith, l))

      by_case : Dec (s < first) → Dec (s < first + state_count ls) → is_start b r k s ≡ false
      by_case (yes m) d = not_mine s (h.below s m)
      by_case (no m) (no d) = past (omega (arith, d)) (dec_lt s (length b.states))
      by_case (no m) (yes d) =
          let i = s - suc first in
          let e : s ≡ first + suc i = omega (arith, m, n) in
          flag_start s (suc i) e (omega arith) (start_later ls (names ls) i)

  to_ends : (w : List ℕ) → accepts b r k w ≡ some_state b (λ (p : ℕ). is_start b r k p && ends b.arcs (is_accept b r k) w p)
  unfolding accepts
  to_ends w =
      any_ext (λ (p : ℕ). is_start b r k p && some_state b (λ (q : ℕ). is_accept b r k q && leads b.arcs p w q))
      (λ (p : ℕ). is_start b r k p && ends b.arcs (is_accept b r k) w p)
      (λ p. ap (λ (t : Bool). is_start b r k p && t) (ends_is b.arcs (is_accept b r k) (length b.states) (accept_top b r k first ls h) w p))
      (up_from 0 (length b.states))

  from_first : (w : List ℕ) → accepts b r k w ≡ (is_start b r k first && ends b.arcs (is_accept b r k) w first)
  from_first w =
      let a = h.room in
      let d = some b r k first ls h in
      to_ends w
      ∙ any_one (λ (p : ℕ). is_start b r k p && ends b.arcs (is_accept b r k) w p) first
      (λ j n. ap (λ (t : Bool). t && ends b.arcs (is_accept b r k) w j) (start_other j n)) 0 (length b.states) (omega arith) (omega arith)

words_none : (b : Book) (r k first : ℕ) → Holds b r k first [] → (w : List ℕ) → accepts b r k w ≡ text_words [] w
unfolding text_words flags names names_from flagged
words_none b r k first h w =
    let z : is_start b r k first ≡ false = flag_start b r k first [] h first 0 (omega arith) (some b r k first [] h) refl in
    from_first b r k first [] h w ∙ rw z

words_some : (b : Book) (r k first : ℕ) (l : Said) (ls : List Said) → Holds b r k first (l ∷ ls) → (w : List ℕ) → accepts b r k w ≡ text_words (l ∷ ls) w
unfolding text_words is_start
words_some b r k first l ls h w =
    let p = first_zero l ls in
    let n = some b r k first (l ∷ ls) h in
    let e : first ≡ first + idx (names (l ∷ ls)) (first_state l) = omega (arith, p.0) in
    let f : get_or (flags (l ∷ ls) (names (l ∷ ls))) 0 0 ≡ 1 + accept (l ∷ ls) (first_state l)
    = ap (λ (i : ℕ). get_or (flags (l ∷ ls) (names (l ∷ ls))) i 0) (sym p.0) ∙ flag_at (l ∷ ls) (names (l ∷ ls)) (first_state l) p.1
    ∙ ap (λ (i : ℕ). lead 1 i + accept (l ∷ ls) (first_state l)) p.0 in
    let q : first ≡ first + 0 = omega arith in
    let z : is_start b r k first ≡ true = subst (λ (s : ℕ). is_start b r k s ≡ true) (sym q) (has_own b r k first (l ∷ ls) h 0 start_flag n
    ∙ ap (flagged start_flag) f ∙ start_head (is_final (l ∷ ls) (first_state l))) in
    from_first b r k first (l ∷ ls) h w
    ∙ rw z (ap (ends b.arcs (is_accept b r k) w) e ∙ text_is b r k first (l ∷ ls) h w (first_state l) p.1)

-- "The accepted words are exactly the text's, proved once for the three parts"
pub words : (b : Book) (r k first : ℕ) (ls : List Said) → Holds b r k first ls → (w : List ℕ) → accepts b r k w ≡ text_words ls w
words b r k first [] h w = words_none b r k first h w
words b r k first (l ∷ ls) h w = words_some b r k first l ls h w
