-- The masks of a book. Their members, for every number; what a set and a mask have in common; and what is given rule by rule, as the loops
-- over the rules gather it. Assumes nothing.
use Prim.Native.Nat.{ℕ, suc, ◌≤◌, ◌<◌, zero-le}
use mathlib.Core.Path.{◌≡◌, refl, ap, sym, subst, ◌∙◌}
use mathlib.Core.Bool.{Bool, true, false, cond, not, ◌&&◌, ◌||◌}
use mathlib.Core.Bool as B
use native.Mathlib.Decide.{ℕ_discrete, dec_lt}
use native.Mathlib.Omega.{arith}
use lib.Dec.{T, T_not, not_T, eqb, ltb, eqb→eq}
use lib.Bits.{bit_and, and_le_r}
use lib.Count.{count_trailing_zeros}
use lib.ListN.{length, get_or-eq_default}
use borrow.Author.Tests.{eq-eqb, ne_eqb, lt-ltb, le-ltb}
use Rattle.book.specs.Format.{most_states}
use Rattle.book.specs.Reading.{Book}
use Rattle.book.specs.Language.{some_state, no_state, state_of, is_of}
use Rattle.book.specs.Outline.{rule_mask, all_mask}
use Rattle.book.specs.Sound.{Sound}
use Rattle.book.specs.StateSets.{member, encode}
use Rattle.book.proofs.Bits.{member_and, member_none, member_encode, member_past, encode_lt, lowest}
use Rattle.book.proofs.Masking.{no_state_lem}
use Rattle.book.proofs.Tests.{same_test, any_up}
use Rattle.sets.specs.Sets.{set_of}

-- the members of a set, for every number
member_set : (f : ℕ → Bool) (n : ℕ) → ((s : ℕ) → n ≤ s → f s ≡ false) → (s : ℕ) → member (encode f n) s ≡ f s
member_set f n h s = go (dec_lt s n)
  where
    go : Dec (s < n) → member (encode f n) s ≡ f s
    go (yes l) = member_encode f n s l
    go (no l) = member_past n (encode f n) s (encode_lt f n) (omega arith) ∙ sym (h s (omega arith))

-- no test of states is passed where there is no state
module _ (b : Book) where
  pub none_of : (part flag s : ℕ) → length b.states ≤ s → is_of part flag (state_of b s) ≡ false
  none_of part flag s h = ap (is_of part flag) (get_or-eq_default b.states no_state {n = s} h) ∙ no_state_lem part flag

  pub none_rule : (part flag r s : ℕ) → length b.states ≤ s → (eqb (state_of b s).rule r && is_of part flag (state_of b s)) ≡ false
  none_rule part flag r s h = ap (λ (x : Bool). eqb (state_of b s).rule r && x) (none_of part flag s h) ∙ B.and-false (eqb (state_of b s).rule r)

  module _ (o : Sound b) where
    pub member_all : (part flag s : ℕ) → member (all_mask part flag b.states) s ≡ is_of part flag (state_of b s)
    unfolding all_mask
    member_all part flag s = member_set (λ k. is_of part flag (state_of b k)) most_states (λ k h. none_of part flag k (omega (arith, o.states))) s

    pub member_rule : (part flag r s : ℕ) → member (rule_mask part flag b.states r) s ≡ (eqb (state_of b s).rule r && is_of part flag (state_of b s))
    unfolding rule_mask
    member_rule part flag r s =
        member_set (λ k. eqb (state_of b k).rule r && is_of part flag (state_of b k)) most_states (λ k h. none_rule part flag r k (omega (arith, o.states))) s

    pub member_of : (f : ℕ → Bool) → ((s : ℕ) → length b.states ≤ s → f s ≡ false) → (s : ℕ) → member (set_of b f) s ≡ f s
    unfolding set_of
    member_of f h s = member_set f (length b.states) h s

-- the set X and the mask of the states that pass f
module _ (b : Book) (o : Sound b) (f : ℕ → Bool) (past : (s : ℕ) → length b.states ≤ s → f s ≡ false) (X : ℕ) where
  in_both : (s : ℕ) → member (bit_and X (encode f most_states)) s ≡ (f s && member X s)
  in_both s =
      member_and X (encode f most_states) s
      ∙ ap (λ (c : Bool). member X s && c) (member_set f most_states (λ k h. past k (omega (arith, o.states))) s)
      ∙ B.and_comm (member X s) (f s)

  inside : (s : ℕ) → (f s && member X s) ≡ true → s < length b.states
  inside s e = by (dec_lt s (length b.states))
    where
      by : Dec (s < length b.states) → s < length b.states
      by (yes l) = l
      by (no l) = absurd (B.false≢true (sym (ap (λ (c : Bool). c && member X s) (past s (omega arith))) ∙ e))

  -- where they have nothing in common no state passes and is in the set
  pub none_both : bit_and X (encode f most_states) ≡ 0 → (s : ℕ) → (f s && member X s) ≡ false
  none_both e s = sym (in_both s) ∙ ap (λ (n : ℕ). member n s) e ∙ member_none s

  pub meets : not (eqb (bit_and X (encode f most_states)) 0) ≡ some_state b (λ (s : ℕ). f s && member X s)
  meets = same_test _ _ (some, other)
    where
      m : ℕ
      m = bit_and X (encode f most_states)

      some : T (not (eqb m 0)) → T (some_state b (λ (s : ℕ). f s && member X s))
      some t =
          let k = count_trailing_zeros most_states m in
          let n : m ≡ 0 → ⊥ = λ q. T_not (eqb m 0) t (subst T (sym (eq-eqb m 0 q)) tt) in
          let l = lowest most_states m (omega (arith, n)) (omega (arith, and_le_r X (encode f most_states), encode_lt f most_states)) in
          let e = sym (in_both k) ∙ l.is_in in
          (any_up (λ (s : ℕ). f s && member X s) 0 (length b.states)).1 (k, zero-le, omega (arith, inside k e), subst T (sym e) tt)

      other : T (some_state b (λ (s : ℕ). f s && member X s)) → T (not (eqb m 0))
      other t =
          let z = (any_up (λ (s : ℕ). f s && member X s) 0 (length b.states)).0 t in
          not_T (eqb m 0) (λ q. subst T (none_both (eqb→eq m 0 q) z.0) z.3)

-- ---- rule by rule: E is what a state of the rule r passes besides, K what its rule passes

pub member_joins : (t : Bool) (a s : ℕ) → member (cond t 0 a) s ≡ (not t && member a s)
member_joins true a s = member_none s
member_joins false a s = refl

swapped : (k e : Bool) → (k && (true && e)) ≡ (true && (e && k))
swapped true true = refl
swapped true false = refl
swapped false true = refl
swapped false false = refl

pub at_rule : (r n : ℕ) (E : Bool) (K : ℕ → Bool) → (K n && (eqb r n && E)) ≡ (eqb r n && (E && K r))
at_rule r n E K = by (ℕ_discrete r n)
  where
    by : Dec (r ≡ n) → (K n && (eqb r n && E)) ≡ (eqb r n && (E && K r))
    by (yes e) = rw (eq-eqb _ _ e) (ap (λ (j : ℕ). K j && (true && E)) (sym e) ∙ swapped (K r) E)
    by (no g) = rw (ne_eqb _ _ g) (B.and-false (K n))

-- the rules below n, and the rule n
pub below_more : (r n : ℕ) (E : Bool) → (ltb r (suc n) && E) ≡ ((ltb r n && E) || (eqb r n && E))
below_more r n E = by (ℕ_discrete r n) (dec_lt r n)
  where
    or-false : (x : Bool) → x ≡ (x || false)
    or-false true = refl
    or-false false = refl

    by : Dec (r ≡ n) → Dec (r < n) → (ltb r (suc n) && E) ≡ ((ltb r n && E) || (eqb r n && E))
    by (yes e) l = rw (eq-eqb _ _ e, le-ltb r n (omega arith), lt-ltb r (suc n) (omega arith))
    by (no g) (yes l) = rw (ne_eqb _ _ g, lt-ltb r n l, lt-ltb r (suc n) (omega arith)) (or-false E)
    by (no g) (no l) = rw (ne_eqb _ _ g, le-ltb r n (omega arith), le-ltb r (suc n) (omega (arith, g)))
