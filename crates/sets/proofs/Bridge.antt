-- A book as a machine of Runs.antt: what the tests of a book's languages say of its runs. Assumes nothing.
use Prim.Native.Nat.{ℕ, ◌≤◌, ◌<◌}
use mathlib.Core.List.{List, [], ◌∷◌, Memᴰ}
use mathlib.Core.Bool.{Bool, ◌&&◌}
use mathlib.Core.Path.{◌≡◌, subst, sym, ap, refl, ◌∙◌}
use mathlib.Core.Logic.{◌↔◌}
use native.Mathlib.Omega.{arith}
use native.Mathlib.Decide.{dec_lt}
use lib.Dec.{T, eqb, leb, eqb→eq, eqb_refl}
use lib.ListN.{length}
use Rattle.book.specs.Format.{left_part, focus_part, right_part, start_flag, accept_flag}
use Rattle.book.specs.Reading.{Arc, Book}
use Rattle.book.specs.Language.{up_from, opens, leads, state_of, flagged, is_of, starts, ends, is_start, is_accept, some_state, accepts, some_end, some_front}
use Rattle.book.specs.Sound.{Sound}
use Rattle.book.proofs.Sound.{arc_fits}
use Rattle.book.proofs.Tests.{and_both, and_left, and_right, any_in, any_out, up_in, end_in_lem, end_out, front_in, front_out}
use Rattle.sets.proofs.Masks.{none_of}
use Rattle.sets.proofs.Runs.{stop, step, Machine, Stays, Start, Accept, Run, Accepts, LeftHolds, RightHolds, Applies}

-- an arc of the book from p to q that is open to a
pub record ArcStep (b : Book) (p a q : ℕ) : Type 0 where
  pub arc : Arc
  pub listed : Memᴰ arc b.arcs
  pub open_to_lem : T (opens arc p a)
  pub to : arc.to ≡ q

abbrev pub machine : Book → Machine
machine b = record {
  Step = ArcStep b;
  rule = λ (s : ℕ). (state_of b s).rule;
  part = λ (s : ℕ). (state_of b s).part;
  Begin = λ (s : ℕ). T (flagged start_flag (state_of b s).flags);
  End = λ (s : ℕ). T (flagged accept_flag (state_of b s).flags);
}

pub opens_from : (x : Arc) (p a : ℕ) → T (opens x p a) → x.from ≡ p
opens_from x p a t = eqb→eq x.from p (and_left (eqb x.from p) (leb x.low a && leb a x.high) t)

pub eqb_in : {m n : ℕ} → m ≡ n → T (eqb m n)
eqb_in {m} {n} e = subst (λ (x : ℕ). T (eqb m x)) e (eqb_refl m)

-- the arcs of an accepted book stay in one part of one rule
pub book_stays : {b : Book} → Sound b → Stays (machine b)
book_stays {b} h = record {
  same_rule = λ {p} {a} {q} z.
      subst (λ (x : ℕ). (state_of b x).rule ≡ (state_of b q).rule) (opens_from z.arc p a z.open_to_lem)
      ((arc_fits h z.listed).rule ∙ ap (λ (x : ℕ). (state_of b x).rule) z.to);
  same_part = λ {p} {a} {q} z.
      subst (λ (x : ℕ). (state_of b x).part ≡ (state_of b q).part) (opens_from z.arc p a z.open_to_lem)
      ((arc_fits h z.listed).part ∙ ap (λ (x : ℕ). (state_of b x).part) z.to);
}

module _ (b : Book) where
  -- words that lead from a state to a state
  pub leads_out : (w : List ℕ) (p q : ℕ) → T (leads b.arcs p w q) → Run (machine b) p w q
  unfolding leads
  leads_out [] p q t = subst (λ (x : ℕ). Run (machine b) p [] x) (eqb→eq p q t) stop
  leads_out (a ∷ w) p q t =
      let z = any_out (λ (x : Arc). opens x p a && leads b.arcs x.to w q) b.arcs t in
      let x = z.0 in
      let l = leads b.arcs x.to w q in
      step (record { arc = x; listed = z.1; open_to_lem = and_left (opens x p a) l z.2; to = refl }) (leads_out w x.to q (and_right (opens x p a) l z.2))

  pub leads_in : {w : List ℕ} {p q : ℕ} → Run (machine b) p w q → T (leads b.arcs p w q)
  unfolding leads
  leads_in {p = p} stop = eqb_refl p
  leads_in {p = p} {q = q} (step {a = a} {m = m} {w = w} s l) =
      any_in (λ (x : Arc). opens x p a && leads b.arcs x.to w q) s.listed
      (and_both (opens s.arc p a) (leads b.arcs s.arc.to w q) s.open_to_lem (subst (λ (x : ℕ). T (leads b.arcs x w q)) (sym s.to) (leads_in l)))

  -- start and accept states, of their own rule
  pub starts_out : (part s : ℕ) → T (starts b part s) → Start (machine b) (state_of b s).rule part s
  starts_out part s t = let x = state_of b s in record {
    of = refl;
    in_part = eqb→eq x.part part (and_left (eqb x.part part) (flagged start_flag x.flags) t);
    is = and_right (eqb x.part part) (flagged start_flag x.flags) t;
  }

  pub starts_in : {r part s : ℕ} → Start (machine b) r part s → T (starts b part s)
  starts_in {r} {part} {s} h = let x = state_of b s in and_both (eqb x.part part) (flagged start_flag x.flags) (eqb_in h.in_part) h.is

  pub ends_out : (part s : ℕ) → T (ends b part s) → Accept (machine b) (state_of b s).rule part s
  ends_out part s t = let x = state_of b s in record {
    of = refl;
    in_part = eqb→eq x.part part (and_left (eqb x.part part) (flagged accept_flag x.flags) t);
    is = and_right (eqb x.part part) (flagged accept_flag x.flags) t;
  }

  pub ends_in : {r part s : ℕ} → Accept (machine b) r part s → T (ends b part s)
  ends_in {r} {part} {s} h = let x = state_of b s in and_both (eqb x.part part) (flagged accept_flag x.flags) (eqb_in h.in_part) h.is

  -- and of a given rule
  pub start_out : (r part s : ℕ) → T (is_start b r part s) → Start (machine b) r part s
  unfolding is_start
  start_out r part s t =
      let e = eqb→eq (state_of b s).rule r (and_left (eqb (state_of b s).rule r) (starts b part s) t) in
      subst (λ (x : ℕ). Start (machine b) x part s) e (starts_out part s (and_right (eqb (state_of b s).rule r) (starts b part s) t))

  pub start_in_lem : {r part s : ℕ} → Start (machine b) r part s → T (is_start b r part s)
  unfolding is_start
  start_in_lem {r} {part} {s} h = and_both (eqb (state_of b s).rule r) (starts b part s) (eqb_in h.of) (starts_in h)

  pub accept_out : (r part s : ℕ) → T (is_accept b r part s) → Accept (machine b) r part s
  unfolding is_accept
  accept_out r part s t =
      let e = eqb→eq (state_of b s).rule r (and_left (eqb (state_of b s).rule r) (ends b part s) t) in
      subst (λ (x : ℕ). Accept (machine b) x part s) e (ends_out part s (and_right (eqb (state_of b s).rule r) (ends b part s) t))

  pub accept_in : {r part s : ℕ} → Accept (machine b) r part s → T (is_accept b r part s)
  unfolding is_accept
  accept_in {r} {part} {s} h = and_both (eqb (state_of b s).rule r) (ends b part s) (eqb_in h.of) (ends_in h)

  -- a state that the book does not have neither starts nor accepts
  known : (part flag s : ℕ) → T (is_of part flag (state_of b s)) → s < length b.states
  known part flag s t = go (dec_lt s (length b.states))
    where
      go : Dec (s < length b.states) → s < length b.states
      go (yes h) = h
      go (no h) = let g : length b.states ≤ s = omega arith in absurd (subst T (none_of b part flag s g) t)

  pub start_known : {r part s : ℕ} → Start (machine b) r part s → s < length b.states
  start_known {part = part} {s = s} h = known part start_flag s (starts_in h)

  pub accept_known : {r part s : ℕ} → Accept (machine b) r part s → s < length b.states
  accept_known {part = part} {s = s} h = known part accept_flag s (ends_in h)

  -- some state passes two tests
  pub some_out : (f g : ℕ → Bool) → T (some_state b (λ (s : ℕ). f s && g s)) → (s : ℕ) × T (f s) × T (g s)
  some_out f g t =
      let z = any_out (λ (s : ℕ). f s && g s) (up_from 0 (length b.states)) t in
      (z.0, and_left (f z.0) (g z.0) z.2, and_right (f z.0) (g z.0) z.2)

  pub some_in : (f g : ℕ → Bool) (s : ℕ) → s < length b.states → T (f s) → T (g s) → T (some_state b (λ (s : ℕ). f s && g s))
  some_in f g s h t u = any_in (λ (s : ℕ). f s && g s) (up_in 0 (length b.states) s (omega arith) (omega arith)) (and_both (f s) (g s) t u)

  -- a run from p over w ends in an accept state
  abbrev finishes : ℕ → ℕ → List ℕ → ℕ → Bool
  finishes r part w p = some_state b (λ (q : ℕ). is_accept b r part q && leads b.arcs p w q)

  pub accepts_out : (r part : ℕ) (w : List ℕ) → T (accepts b r part w) → Accepts (machine b) r part w
  unfolding accepts
  accepts_out r part w t =
      let y = some_out (is_start b r part) (finishes r part w) t in
      let z = some_out (is_accept b r part) (leads b.arcs y.0 w) y.2 in
      record {
        from = y.0;
        to = z.0;
        start = start_out r part y.0 y.1;
        accept = accept_out r part z.0 z.1;
        run = leads_out w y.0 z.0 z.2;
      }

  pub accepts_in : {r part : ℕ} {w : List ℕ} → Accepts (machine b) r part w → T (accepts b r part w)
  unfolding accepts
  accepts_in {r} {part} {w} h =
      some_in (is_start b r part) (finishes r part w) h.from (start_known h.start) (start_in_lem h.start)
      (some_in (is_accept b r part) (leads b.arcs h.from w) h.to (accept_known h.accept) (accept_in h.accept) (leads_in h.run))

  -- the contexts
  pub left_iff : (r : ℕ) (w : List ℕ) → T (some_end (accepts b r left_part) w) ↔ LeftHolds (machine b) r w
  left_iff r w = (
    λ t. let z = end_out (accepts b r left_part) w t in record { front = z.0; word = z.1; cut = z.2; accepts = accepts_out r left_part z.1 z.3 },
    λ h. end_in_lem (accepts b r left_part) h.cut (accepts_in h.accepts),
  )

  pub right_iff : (r : ℕ) (w : List ℕ) → T (some_front (accepts b r right_part) w) ↔ RightHolds (machine b) r w
  right_iff r w = (
    λ t. let z = front_out (accepts b r right_part) w t in record { word = z.0; rest = z.1; cut = z.2; accepts = accepts_out r right_part z.0 z.3 },
    λ h. front_in (accepts b r right_part) h.cut (accepts_in h.accepts),
  )

  -- the three languages of a rule
  pub applies_iff : (r : ℕ) (l f w : List ℕ)
      → T (accepts b r focus_part f && some_end (accepts b r left_part) l && some_front (accepts b r right_part) w) ↔ Applies (machine b) l f w r
  applies_iff r l f w = (
    λ t. record {
      left = (left_iff r l).0 (and_right F L (and_left (F && L) W t));
      focus = accepts_out r focus_part f (and_left F L (and_left (F && L) W t));
      right = (right_iff r w).0 (and_right (F && L) W t);
    },
    λ h. and_both (F && L) W (and_both F L (accepts_in h.focus) ((left_iff r l).1 h.left)) ((right_iff r w).1 h.right),
  )
    where
      F : Bool
      F = accepts b r focus_part f

      L : Bool
      L = some_end (accepts b r left_part) l

      W : Bool
      W = some_front (accepts b r right_part) w
