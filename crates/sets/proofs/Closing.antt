-- The sets that the code gives are those of the definitions: state by state, for every number. Assumes nothing.
use Prim.Native.Nat.{ℕ, zero, suc, ◌≤◌, ◌<◌}
use mathlib.Core.Path.{◌≡◌, refl, ap, ap₂, sym, ◌∙◌}
use mathlib.Core.Logic.{◌≢◌}
use mathlib.Core.Bool.{Bool, true, false, not, ◌&&◌, ◌||◌}
use mathlib.Core.Bool as B
use mathlib.Core.List.{List, [], ◌∷◌, map}
use native.Mathlib.Decide.{ℕ_discrete, dec_lt}
use native.Mathlib.Omega.{arith}
use lib.Dec.{eqb, leb, ltb}
use lib.Bits.{bit_or, bit_and}
use lib.ListN.{length, get_or-eq_default}
use borrow.Author.Tests.{eq-eqb, ne_eqb, lt-ltb, le-ltb}
use Rattle.book.specs.Format.{left_part, focus_part, right_part, start_flag, accept_flag, from_at, to_at, most_rules}
use Rattle.book.specs.Reading.{State, Arc, Book}
use Rattle.book.specs.Language.{any, some_state, opens, no_state, state_of, is_of, starts, ends, is_start}
use Rattle.book.specs.Outline.{rule_mask, all_mask, EachMask}
use Rattle.book.specs.Sound.{Sound, no_arc, arc_of}
use Rattle.book.specs.StateSets.{member}
use Rattle.book.proofs.Some.{any_each}
use Rattle.book.proofs.Bits.{member_or, member_none, ext}
use Rattle.sets.specs.Sets.{into_by, back_by, left_first, left_next, near, closed, right_last, right_prev}
use Rattle.sets.specs.Focus.{focus_step}
use Rattle.sets.specs.Stepping.{leaves, turned, step_arcs, joins, gather}
use Rattle.sets.proofs.Folds.{member_step}
use Rattle.sets.proofs.Masks.{none_of, none_rule, member_all, member_rule, member_of, member_joins, at_rule, below_more, meets}

-- the step's members as the definitions say them
into_one : (m l h e e' t : Bool) → e ≡ e' → t ≡ true → (m && (l && h) && e) ≡ (m && ((t && (l && h)) && e'))
into_one m l h e e' t p q = rw (p, q) (go m l h e')
  where
    go : (m l h e : Bool) → (m && (l && h) && e) ≡ (m && ((true && (l && h)) && e))
    go true true true e = refl
    go true true false e = refl
    go true false h e = refl
    go false l h e = refl

back_one : (m l h e e' : Bool) → e ≡ e' → (m && (l && h) && e) ≡ ((e' && (l && h)) && m)
back_one m l h e e' p = rw p (go m l h e')
  where
    go : (m l h e : Bool) → (m && (l && h) && e) ≡ ((e && (l && h)) && m)
    go true true true true = refl
    go true true true false = refl
    go true true false true = refl
    go true true false false = refl
    go true false h true = refl
    go true false h false = refl
    go false true true true = refl
    go false true true false = refl
    go false true false true = refl
    go false true false false = refl
    go false false h true = refl
    go false false h false = refl

eqb_sym : (x y : ℕ) → eqb x y ≡ eqb y x
eqb_sym x y = go (ℕ_discrete x y)
  where
    go : Dec (x ≡ y) → eqb x y ≡ eqb y x
    go (yes e) = eq-eqb _ _ e ∙ sym (eq-eqb _ _ (sym e))
    go (no f) = ne_eqb _ _ f ∙ sym (ne_eqb _ _ (λ e. f (sym e)))

step_into : (arcs : List Arc) (X c s : ℕ)
    → any (λ a. leaves X c a && eqb s a.to) (map (turned from_at to_at) arcs)
    ≡ any (λ (x : Arc). member X x.from && (opens x x.from c && eqb x.to s)) arcs
unfolding turned
step_into [] X c s = refl
step_into (a ∷ arcs) X c s =
    ap₂ (λ (p q : Bool). p || q)
    (into_one (member X a.from) (leb a.low c) (leb c a.high) (eqb s a.to) (eqb a.to s) (eqb a.from a.from)
    (eqb_sym s a.to) (eq-eqb a.from a.from refl))
    (step_into arcs X c s)

step_back : (arcs : List Arc) (X c s : ℕ)
    → any (λ a. leaves X c a && eqb s a.to) (map (turned to_at from_at) arcs) ≡ any (λ (x : Arc). opens x s c && member X x.to) arcs
unfolding turned
step_back [] X c s = refl
step_back (a ∷ arcs) X c s =
    ap₂ (λ (p q : Bool). p || q)
    (back_one (member X a.to) (leb a.low c) (leb c a.high) (eqb s a.from) (eqb a.from s) (eqb_sym s a.from))
    (step_back arcs X c s)

pub member_into : (b : Book) (X c s : ℕ) → member (step_arcs from_at to_at b.arcs X c) s ≡ into_by b X c s
unfolding step_arcs into_by
member_into b X c s = member_step c (map (turned from_at to_at) b.arcs) X s ∙ step_into b.arcs X c s

pub member_back : (b : Book) (X c s : ℕ) → member (step_arcs to_at from_at b.arcs X c) s ≡ back_by b X c s
unfolding step_arcs back_by
member_back b X c s = member_step c (map (turned to_at from_at) b.arcs) X s ∙ step_back b.arcs X c s

-- no arc leads to what is no state, and none leaves it
pub into_past : (b : Book) (X c s : ℕ) → Sound b → length b.states ≤ s → into_by b X c s ≡ false
unfolding into_by
into_past b X c s o h =
    any_each (λ (x : Arc). member X x.from && (opens x x.from c && eqb x.to s)) no_arc b.arcs
    (λ j l. let n : (arc_of b j).to ≢ s = λ e. absurd (omega (arith, (o.arc j l).to)) in simp (ne_eqb _ _ n, B.and-false))

back_past : (b : Book) (X c s : ℕ) → Sound b → length b.states ≤ s → back_by b X c s ≡ false
unfolding back_by
back_past b X c s o h =
    any_each (λ (x : Arc). opens x s c && member X x.to) no_arc b.arcs
    (λ j l. let n : (arc_of b j).from ≢ s = λ e. absurd (omega (arith, (o.arc j l).from)) in simp (ne_eqb _ _ n))

or-false : (x y : Bool) → x ≡ false → y ≡ false → (x || y) ≡ false
or-false x y e f = ap₂ (λ (p q : Bool). p || q) e f

pub left_next_lem : (b : Book) (X c : ℕ) → Sound b → bit_or (all_mask left_part start_flag b.states) (step_arcs from_at to_at b.arcs X c) ≡ left_next b X c
unfolding left_next
left_next_lem b X c o =
    ext _ _ (λ s. member_or (all_mask left_part start_flag b.states) (step_arcs from_at to_at b.arcs X c) s
    ∙ ap₂ (λ (p q : Bool). p || q) (member_all b o left_part start_flag s) (member_into b X c s)
    ∙ sym (member_of b o (λ k. starts b left_part k || into_by b X c k)
    (λ k h. or-false (starts b left_part k) (into_by b X c k) (none_of b left_part start_flag k h) (into_past b X c k o h)) s))

-- ---- the closure

-- what is given by the masks of two parts with their flags
module _ (b : Book) (o : Sound b) (p₁ f₁ p₂ f₂ : ℕ) (x : ℕ) (S A : ℕ → ℕ) (ms : EachMask p₁ f₁ b.states S) (ma : EachMask p₂ f₂ b.states A) where
  tested : ℕ → ℕ → Bool
  tested r s = (eqb (state_of b s).rule r && is_of p₁ f₁ (state_of b s)) && member x s

  meets_tested : (r : ℕ) → r < most_rules → not (eqb (bit_and x (S r)) 0) ≡ some_state b (tested r)
  unfolding tested rule_mask
  meets_tested r h =
      ap (λ (y : ℕ). not (eqb (bit_and x y) 0)) (ms r h) ∙ meets b o (λ s. eqb (state_of b s).rule r && is_of p₁ f₁ (state_of b s)) (none_rule b p₁ f₁ r) x

  K : ℕ → Bool
  K r = some_state b (tested r)

  gather_below : (n s : ℕ) → n ≤ most_rules → member (gather n x S A) s ≡ (ltb (state_of b s).rule n && (is_of p₂ f₂ (state_of b s) && K (state_of b s).rule))
  unfolding gather K
  gather_below zero s h =
      member_none s ∙ ap (λ (t : Bool). t && (is_of p₂ f₂ (state_of b s) && K (state_of b s).rule)) (sym (le-ltb (state_of b s).rule 0 (omega arith)))
  gather_below (suc n) s h =
      let r = (state_of b s).rule in let E = is_of p₂ f₂ (state_of b s) in
      member_or (gather n x S A) (joins x (S n) (A n)) s
      ∙ ap₂ (λ (p q : Bool). p || q) (gather_below n s (omega arith))
      (member_joins (eqb (bit_and x (S n)) 0) (A n) s
      ∙ ap₂ (λ (p q : Bool). p && q) (meets_tested n (omega arith)) (ap (λ (y : ℕ). member y s) (ma n (omega arith)) ∙ member_rule b o p₂ f₂ n s)
      ∙ at_rule r n E K)
      ∙ sym (below_more r n (E && K r))

  rule_small : (s : ℕ) → Dec (s < length b.states) → (state_of b s).rule < most_rules
  rule_small s (yes l) = omega (arith, o.rule s l, o.rules)
  rule_small s (no l) = omega (arith, ap (λ (st : State). st.rule) (get_or-eq_default b.states no_state {n = s} (omega arith)))

  pub member_gather : (s : ℕ) → member (gather most_rules x S A) s
      ≡ (is_of p₂ f₂ (state_of b s) && some_state b (λ (p : ℕ). (eqb (state_of b p).rule (state_of b s).rule && is_of p₁ f₁ (state_of b p)) && member x p))
  unfolding K tested
  member_gather s =
      gather_below most_rules s (omega arith)
      ∙ ap (λ (t : Bool). t && (is_of p₂ f₂ (state_of b s) && K (state_of b s).rule)) (lt-ltb _ _ (rule_small s (dec_lt s (length b.states))))

close_is : (b : Book) (o : Sound b) (f : ℕ → Bool) → ((s : ℕ) → length b.states ≤ s → f s ≡ false) → (x : ℕ) → ((s : ℕ) → member x s ≡ near b f s)
    → (S A : ℕ → ℕ) → EachMask right_part start_flag b.states S → EachMask focus_part accept_flag b.states A → bit_or x (gather most_rules x S A) ≡ closed b f
unfolding closed is_start
close_is b o f past x is S A ms ma =
    ext _ _ (λ s. member_or x (gather most_rules x S A) s
    ∙ ap₂ (λ (p q : Bool). p || q) (is s)
    (member_gather b o right_part start_flag focus_part accept_flag x S A ms ma s
    ∙ ap (λ (g : ℕ → Bool). ends b focus_part s && some_state b (λ (p : ℕ). is_start b (state_of b s).rule right_part p && g p)) (λ i p. is p i))
    ∙ sym (member_of b o (λ k. near b f k || (ends b focus_part k && K' k))
    (λ k h. or-false (near b f k) (ends b focus_part k && K' k) (or-false (f k) (ends b right_part k) (past k h) (none_of b right_part accept_flag k h))
    (ap (λ (p : Bool). p && K' k) (none_of b focus_part accept_flag k h))) s))
  where
    K' : ℕ → Bool
    K' k = some_state b (λ (p : ℕ). is_start b (state_of b k).rule right_part p && near b f p)

pub right_prev_lem : (b : Book) (X c x : ℕ) (S A : ℕ → ℕ) → Sound b → x ≡ bit_or (all_mask right_part accept_flag b.states) (step_arcs to_at from_at b.arcs X c)
    → EachMask right_part start_flag b.states S → EachMask focus_part accept_flag b.states A → bit_or x (gather most_rules x S A) ≡ right_prev b X c
unfolding right_prev
right_prev_lem b X c x S A o e ms ma =
    close_is b o (back_by b X c) (λ s h. back_past b X c s o h) x
    (λ s. ap (λ (y : ℕ). member y s) e ∙ member_or (all_mask right_part accept_flag b.states) (step_arcs to_at from_at b.arcs X c) s
    ∙ ap₂ (λ (p q : Bool). p || q) (member_all b o right_part accept_flag s) (member_back b X c s) ∙ B.or_comm (ends b right_part s) (back_by b X c s))
    S A ms ma

pub right_last_lem : (b : Book) (x : ℕ) (S A : ℕ → ℕ) → Sound b → x ≡ all_mask right_part accept_flag b.states
    → EachMask right_part start_flag b.states S → EachMask focus_part accept_flag b.states A → bit_or x (gather most_rules x S A) ≡ right_last b
unfolding right_last
right_last_lem b x S A o e ms ma = close_is b o (λ s. false) (λ s h. refl) x (λ s. ap (λ (y : ℕ). member y s) e ∙ member_all b o right_part accept_flag s) S A ms ma

pub left_first_lem : (b : Book) → Sound b → all_mask left_part start_flag b.states ≡ left_first b
unfolding left_first
left_first_lem b o = ext _ _ (λ s. member_all b o left_part start_flag s ∙ sym (member_of b o (starts b left_part) (λ k h. none_of b left_part start_flag k h) s))

-- the step along the arcs
pub step_is : (b : Book) (F a : ℕ) → Sound b → step_arcs from_at to_at b.arcs F a ≡ focus_step b F a
unfolding focus_step
step_is b F a o = ext _ _ (λ s. member_into b F a s ∙ sym (member_of b o (into_by b F a) (λ k h. into_past b F a k o h) s))
