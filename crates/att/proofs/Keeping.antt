-- What stands behind a book's records leaves the other parts as they are: states of another part, and arcs that leave no state from before. Assumes nothing.
use Prim.Native.Nat.{ℕ, suc, ◌+◌, ◌-◌, ◌≤◌, ◌<◌}
use mathlib.Core.Path.{◌≡◌, refl, ap, ap₂, sym, ◌∙◌, subst}
use mathlib.Core.List.{List, [], ◌∷◌, ◌++◌}
use mathlib.Core.Bool.{Bool, true, false, ◌&&◌, ◌||◌}
use mathlib.Core.Bool as B
use native.Mathlib.Omega.{arith}
use native.Mathlib.Decide.{dec_lt}
use lib.Dec.{T, eqb, leb}
use lib.ListN.{length, get_or, length-append, get_or-append}
use lib.Seq.{get_or-append-add}
use borrow.Author.Tests.{ne_eqb, eqb-true}
use Rattle.book.specs.Format.{start_flag, accept_flag}
use Rattle.book.specs.Reading.{State, Arc, Book}
use Rattle.book.specs.Language.{any, opens, leads, no_state, state_of, flagged, is_start, is_accept, some_state, accepts}
use Rattle.book.specs.Sound.{Sound, no_arc}
use Rattle.book.proofs.Tests.{and_both, and_left, and_right, same_test, any_up}
use Rattle.book.proofs.Some.{any_append, any_same}

module _ (b : Book) (N : List State) (X : List Arc) (sound : Sound b) where
  abbrev n : ℕ
  n = length b.states

  abbrev longer : Book
  longer = record { words = b.words; states = b.states ++ N; arcs = b.arcs ++ X; first = b.first }

  old : (p : ℕ) → p < n → state_of longer p ≡ state_of b p
  old p l = get_or-append b.states N no_state p l

  -- ---- runs
  module _ (behind : (j : ℕ) → j < length X → n ≤ (get_or X j no_arc).from) where
    none_opens : (p a : ℕ) (g : Arc → Bool) (Y : List Arc) → p < n → ((j : ℕ) → j < length Y → n ≤ (get_or Y j no_arc).from)
        → any (λ (x : Arc). opens x p a && g x) Y ≡ false
    none_opens p a g [] l h = refl
    none_opens p a g (x ∷ Y) l h =
        let f : n ≤ x.from = h 0 (omega arith) in
        let e : eqb x.from p ≡ false = ne_eqb x.from p (λ q. (let z : ⊥ = omega arith in z)) in
        ap₂ ◌||◌ (ap (λ (t : Bool). (t && (leb x.low a && leb a x.high)) && g x) e) (none_opens p a g Y l (λ j k. h (suc j) (omega arith)))

    same_runs : (w : List ℕ) (p q : ℕ) → p < n → leads longer.arcs p w q ≡ leads b.arcs p w q
    unfolding leads
    same_runs [] p q l = refl
    same_runs (a ∷ w) p q l =
        any_append (λ (x : Arc). opens x p a && leads longer.arcs x.to w q) b.arcs X
        ∙ ap₂ ◌||◌
        (any_same (λ (x : Arc). opens x p a && leads longer.arcs x.to w q) (λ (x : Arc). opens x p a && leads b.arcs x.to w q) no_arc b.arcs
        (λ j k. ap (λ (t : Bool). opens (get_or b.arcs j no_arc) p a && t) (same_runs w (get_or b.arcs j no_arc).to q (sound.arc j k).to)))
        (none_opens p a (λ (x : Arc). leads longer.arcs x.to w q) X l behind)
        ∙ B.or-false _

    -- ---- the states of another part
    module _ (r part : ℕ) (other : (j : ℕ) → j < length N → (get_or N j no_state).rule ≡ r → (get_or N j no_state).part ≡ part → ⊥) where
      abbrev has : Book → ℕ → ℕ → Bool
      has c flag p = eqb (state_of c p).rule r && (eqb (state_of c p).part part && flagged flag (state_of c p).flags)

      -- a state with a flag in that part is an old one
      is_old : (flag p : ℕ) → p < length longer.states → T (has longer flag p) → p < n
      is_old flag p l t = by_case (dec_lt p n)
        where
          by_case : Dec (p < n) → p < n
          by_case (yes h) = h
          by_case (no h) =
              let len = length-append b.states N in
              let i = p - n in
              let e : p ≡ n + i = omega (arith, h) in
              let at : state_of longer p ≡ get_or N i no_state = ap (state_of longer) e ∙ get_or-append-add b.states N i no_state in
              let R = eqb (state_of longer p).rule r in
              let P = eqb (state_of longer p).part part in
              let F = flagged flag (state_of longer p).flags in
              let rule : (state_of longer p).rule ≡ r = eqb-true _ r (is_true R (and_left R (P && F) t)) in
              let its : (state_of longer p).part ≡ part = eqb-true _ part (is_true P (and_left P F (and_right R (P && F) t))) in
              absurd (other i (omega arith) (sym (ap (λ (st : State). st.rule) at) ∙ rule) (sym (ap (λ (st : State). st.part) at) ∙ its))
            where
              is_true : (c : Bool) → T c → c ≡ true
              is_true true h' = refl
              is_true false h' = absurd h'

      same_has : (flag p : ℕ) → p < n → has longer flag p ≡ has b flag p
      same_has flag p l = ap (λ (st : State). eqb st.rule r && (eqb st.part part && flagged flag st.flags)) (old p l)

      abbrev ends : Book → List ℕ → ℕ → ℕ → Bool
      ends c w p q = has c accept_flag q && leads c.arcs p w q

      abbrev begins : Book → List ℕ → ℕ → Bool
      begins c w p = has c start_flag p && some_state c (ends c w p)

      pub keeps : (w : List ℕ) → accepts longer r part w ≡ accepts b r part w
      unfolding accepts is_start is_accept
      keeps w = same_test (accepts longer r part w) (accepts b r part w) (to, back)
        where
          len : length longer.states ≡ n + length N
          len = length-append b.states N

          to : T (accepts longer r part w) → T (accepts b r part w)
          to t =
              let z = (any_up (begins longer w) 0 (length longer.states)).0 t in
              let p = z.0 in
              let s = and_left (has longer start_flag p) (some_state longer (ends longer w p)) z.3 in
              let y = (any_up (ends longer w p) 0 (length longer.states)).0
              (and_right (has longer start_flag p) (some_state longer (ends longer w p)) z.3) in
              let q = y.0 in
              let a = and_left (has longer accept_flag q) (leads longer.arcs p w q) y.3 in
              let lp = is_old start_flag p (omega (arith, z.2)) s in
              let lq = is_old accept_flag q (omega (arith, y.2)) a in
              let run = subst T (same_runs w p q lp) (and_right (has longer accept_flag q) (leads longer.arcs p w q) y.3) in
              let end = and_both (has b accept_flag q) (leads b.arcs p w q) (subst T (same_has accept_flag q lq) a) run in
              let some = (any_up (ends b w p) 0 n).1 (q, y.1, omega (arith, lq), end) in
              (any_up (begins b w) 0 n).1 (
                p,
                z.1,
                omega (arith, lp),
                and_both (has b start_flag p) (some_state b (ends b w p))
                    (subst T (same_has start_flag p lp) s) some,
              )

          back : T (accepts b r part w) → T (accepts longer r part w)
          back t =
              let z = (any_up (begins b w) 0 n).0 t in
              let p = z.0 in
              let s = and_left (has b start_flag p) (some_state b (ends b w p)) z.3 in
              let y = (any_up (ends b w p) 0 n).0 (and_right (has b start_flag p) (some_state b (ends b w p)) z.3) in
              let q = y.0 in
              let a = and_left (has b accept_flag q) (leads b.arcs p w q) y.3 in
              let lp : p < n = omega (arith, z.2) in
              let lq : q < n = omega (arith, y.2) in
              let run = subst T (sym (same_runs w p q lp)) (and_right (has b accept_flag q) (leads b.arcs p w q) y.3) in
              let end = and_both (has longer accept_flag q) (leads longer.arcs p w q) (subst T (sym (same_has accept_flag q lq)) a) run in
              let some = (any_up (ends longer w p) 0 (length longer.states)).1 (q, y.1, omega (arith, len, lq), end) in
              (any_up (begins longer w) 0 (length longer.states)).1 (
                p,
                z.1,
                omega (arith, len, lp),
                and_both (has longer start_flag p) (some_state longer (ends longer w p))
                    (subst T (sym (same_has start_flag p lp)) s) some,
              )
