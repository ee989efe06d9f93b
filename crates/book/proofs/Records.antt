-- A record that stands at a place and whose fields pass the tests is read there: a state, an arc, the end. Assumes nothing.
use Prim.Native.Nat.{ℕ, suc, ◌+◌, ◌-◌, ◌≤◌, ◌<◌}
use mathlib.Core.Path.{◌≡◌, refl, sym, ap, ◌∙◌}
use mathlib.Core.List.{List, [], ◌∷◌, map}
use mathlib.Core.Bool.{true, false}
use native.Mathlib.Omega.{arith}
use lib.Dec.{eqb}
use lib.ListN.{length, drop, get_or, length-drop}
use lib.Seq.{get_or-drop}
use borrow.Author.Tests.{lt-leb, le-leb, le-ltb, lt-ltb, eq-eqb, ne_eqb}
use Rattle.book.specs.Format.{symbol_count, most_states, most_arcs, state_kind, arc_kind, end_kind, right_part, both_flags, state_size, arc_size, end_size}
use Rattle.book.specs.Format.{part_at, flags_at, from_at, low_at, high_at, to_at, byte, record_size, state_reply, given, arc_reply, end_reply, kind_reply}
use Rattle.book.specs.Format.{record_reply}
use Rattle.book.specs.Reading.{Arc, Book, part_of, scan_of, with_state, with_arc, with_record, accepted, read_from}
use Rattle.book.proofs.Laws.{size_state, size_arc}
use Rattle.book.proofs.Progress.{read_more, read_end}
use Rattle.book.proofs.Sound.{ArcPassed, part_at_lem}

module _ (s : List ℕ) (at : ℕ) (b : Book) where
  -- what stands at a place, from what stands there and after it
  here : (W : List ℕ) (i : ℕ) → drop at s ≡ W → byte s (at + i) ≡ get_or W i 0
  here W i e = sym (get_or-drop at s i 0) ∙ ap (λ (l : List ℕ). get_or l i 0) e

  here_kind : (k : ℕ) (R : List ℕ) → drop at s ≡ k ∷ R → byte s at ≡ k
  here_kind k R e = let q : at ≡ at + 0 = omega arith in rw q (here (k ∷ R) 0 e)

  here_long : (W : List ℕ) → drop at s ≡ W → 0 < length W → at + length W ≤ length s
  here_long W e h = let l = length-drop at s in let m = ap length e in omega arith

  -- a record of known length that passes its kind's tests
  passes : (k size : ℕ) → byte s at ≡ k → record_size k ≡ size → 0 < size → at + size ≤ length s → kind_reply s at (scan_of b) ≡ 0
      → record_reply s at (scan_of b) ≡ 0
  unfolding record_reply
  passes k size e f p w r =
      rw (e, f)
      (simp (lt-leb (length s) at (omega arith), ne_eqb size 0 (λ z. (let y : ⊥ = omega arith in y)), le-ltb (length s) (at + size) w, r))

  module _ (some : 0 < length b.words) where
    no_rule_lem : eqb (length b.words) 0 ≡ false
    no_rule_lem = ne_eqb (length b.words) 0 (λ e. let z : ⊥ = omega arith in z)

    pub read_state : (part flags : ℕ) (R : List ℕ) → drop at s ≡ state_kind ∷ part ∷ flags ∷ R → length b.states < most_states → part ≤ right_part
        → flags ≤ both_flags → (n : ℕ)
        → read_from (suc n) s at b ≡ read_from n s (at + state_size) (with_state
        (record { rule = length b.words - 1; part = part; flags = flags; place = at }) b)
    unfolding kind_reply state_reply with_record
    read_state part flags R e room p f n =
        let k = here_kind state_kind (part ∷ flags ∷ R) e in
        let x = here (state_kind ∷ part ∷ flags ∷ R) part_at e in
        let y = here (state_kind ∷ part ∷ flags ∷ R) flags_at e in
        let l = here_long (state_kind ∷ part ∷ flags ∷ R) e (omega arith) in
        let t : kind_reply s at (scan_of b) ≡ 0 = rw (k, x, y) (simp (
          no_rule_lem,
          lt-leb most_states
              (length b.states) room,
          le-ltb right_part part p,
          le-ltb both_flags flags f,
        )) in
        let m : byte s at ≡ end_kind → ⊥ = λ z. (let w : ⊥ = omega (arith, k) in w) in
        read_more n s at b (passes state_kind state_size k (size_state refl) (omega arith) (omega arith) t) m ∙ rw (k, x, y, size_state refl)

    pub read_arc : (x : Arc) (R : List ℕ) → drop at s ≡ arc_kind ∷ x.from ∷ x.low ∷ x.high ∷ x.to ∷ R → ArcPassed b x → (n : ℕ)
        → read_from (suc n) s at b ≡ read_from n s (at + arc_size) (with_arc x b)
    unfolding kind_reply arc_reply given with_record
    read_arc x R e o n =
        let W = arc_kind ∷ x.from ∷ x.low ∷ x.high ∷ x.to ∷ R in
        let k = here_kind arc_kind (x.from ∷ x.low ∷ x.high ∷ x.to ∷ R) e in
        let p = here W from_at e in
        let q = here W low_at e in
        let r = here W high_at e in
        let u = here W to_at e in
        let l = here_long W e (omega arith) in
        let same : eqb (byte (map part_of b.states) x.from) (byte (map part_of b.states) x.to) ≡ true
        = eq-eqb _ _ (part_at_lem b.states x.from ∙ o.part ∙ sym (part_at_lem b.states x.to)) in
        let t : kind_reply s at (scan_of b) ≡ 0
        = rw (k, p, q, r, u)
        (simp (
          no_rule_lem,
          lt-leb most_arcs (length b.arcs) o.room,
          lt-leb symbol_count x.high o.top,
          le-ltb x.high x.low o.order,
          le-leb b.first x.from o.from.0,
          lt-ltb x.from (length b.states) o.from.1,
          le-leb b.first x.to o.to.0,
          lt-ltb x.to (length b.states) o.to.1,
          same,
        )) in
        let m : byte s at ≡ end_kind → ⊥ = λ z. (let w : ⊥ = omega (arith, k) in w) in
        read_more n s at b (passes arc_kind arc_size k (size_arc refl) (omega arith) (omega arith) t) m ∙ rw (k, p, q, r, u, size_arc refl)

    pub read_last : drop at s ≡ end_kind ∷ [] → (n : ℕ) → read_from (suc n) s at b ≡ accepted b
    unfolding kind_reply end_reply record_size
    read_last e n =
        let k = here_kind end_kind [] e in
        let l = length-drop at s in
        let d = ap length e in
        let t : kind_reply s at (scan_of b) ≡ 0 = rw k (simp no_rule_lem) in
        read_end n s at b (passes end_kind end_size k refl (omega arith) (omega arith) t) k ∙ rw (le-ltb (at + end_size) (length s) (omega arith))
