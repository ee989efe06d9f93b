-- The scan of the code and the book of the definition: they agree on all that the tests of a record look at. Assumes nothing.
use Prim.Native.Nat.{ℕ, ◌+◌, ◌≤◌, ◌<◌}
use mathlib.Core.Path.{◌≡◌, refl, ap, sym, ◌∙◌}
use mathlib.Core.List.{List, map, map-append}
use mathlib.Core.Bool.{not}
use lib.ListN.{length, take, length-append, length-set}
use lib.Seq.{take-suc-set, get_or-take}
use lib.Dec.{leb, ltb, eqb}
use borrow.Author.Tests.{not-false}
use native.Mathlib.Numerals.{add-one}
use native.Mathlib.Omega.{arith}
use Rattle.book.specs.declared.Scan.{Scan}
use Rattle.book.specs.Format.{symbol_count, most_states, most_arcs, byte, record_size, given, arc_reply, kind_reply, record_reply}
use Rattle.book.specs.Scanning.{rule_more, state_more, arc_more, record_more}
use Rattle.book.specs.Reading.{State, Arc, Book, part_of, scan_of, word_at, state_at, arc_at, with_rule, with_state, with_arc, with_record}
use Rattle.book.proofs.Laws.{given_below}
use Rattle.book.proofs.Passed.{test_same, kind_rel, state_room}

pub record Agree (g : Scan) (b : Book) : Type 0 where
  pub rules : g.rules ≡ length b.words
  pub states : g.states ≡ length b.states
  pub arcs : g.arcs ≡ length b.arcs
  pub first : g.first ≡ b.first
  pub parts : take g.states g.parts ≡ map part_of b.states
  pub room : g.states ≤ most_states
  pub long : length g.parts ≡ most_states

-- the scan with other parts
abbrev with_parts : Scan → List ℕ → Scan
with_parts g ps = record { rules = g.rules; states = g.states; arcs = g.arcs; first = g.first; parts = ps }

module _ (g : Scan) (ps : List ℕ) (same : (k : ℕ) → k < g.states → byte g.parts k ≡ byte ps k) where
  arc_same : (from low high to : ℕ) → arc_reply from low high to g ≡ arc_reply from low high to (with_parts g ps)
  unfolding arc_reply
  arc_same from low high to =
      test_same (eqb g.rules 0) 4 _ _ (λ _.
      test_same (leb most_arcs g.arcs) 3 _ _ (λ _.
      test_same (leb symbol_count high) 5 _ _ (λ _.
      test_same (ltb high low) 5 _ _ (λ _.
      test_same (not (given g.first g.states from)) 6 _ _ (λ p.
      test_same (not (given g.first g.states to)) 6 _ _ (λ q.
      let u = same from (given_below _ _ _ (not-false _ p)) in
      let v = same to (given_below _ _ _ (not-false _ q)) in
      rw (u, v)))))))

  record_same : (s : List ℕ) (at : ℕ) → record_reply s at g ≡ record_reply s at (with_parts g ps)
  unfolding record_reply kind_reply
  record_same s at =
      test_same (leb (length s) at) 1 _ _ (λ _.
      test_same (eqb (record_size (byte s at)) 0) 2 _ _ (λ _.
      test_same (ltb (length s) (at + record_size (byte s at))) 1 _ _ (λ _.
      kind_rel (λ (x y : ℕ). x ≡ y) (byte s at) _ _ _ _ _ _ _ _ (λ _. refl) (λ _. refl) (λ _. arc_same _ _ _ _) refl)))

-- the same reply on each record
pub reply_same : (g : Scan) (b : Book) → Agree g b → (s : List ℕ) (at : ℕ) → record_reply s at g ≡ record_reply s at (scan_of b)
reply_same g b a s at =
    record_same g (map part_of b.states) below s at
    ∙ ap (record_reply s at) (λ i. record { rules = a.rules i; states = a.states i; arcs = a.arcs i; first = a.first i; parts = map part_of b.states })
  where
    below : (k : ℕ) → k < g.states → byte g.parts k ≡ byte (map part_of b.states) k
    below k h = sym (get_or-take g.states g.parts k 0 h) ∙ ap (λ (l : List ℕ). byte l k) a.parts

-- and they agree again with that record
rule_agree : (g : Scan) (b : Book) (w : List ℕ) → Agree g b → Agree (rule_more g) (with_rule w b)
rule_agree g b w a =
    record {
      rules = rw length-append (omega (arith, a.rules));
      states = a.states;
      arcs = a.arcs;
      first = a.states;
      parts = a.parts;
      room = a.room;
      long = a.long;
    }

state_agree : (g : Scan) (b : Book) (st : State) → g.states < most_states → Agree g b → Agree (state_more st.part g) (with_state st b)
state_agree g b st h a =
    record {
      rules = a.rules;
      states = rw length-append (omega (arith, a.states));
      arcs = a.arcs;
      first = a.first;
      parts = rw (add-one, map-append, ← a.parts) (take-suc-set g.parts g.states st.part (omega (arith, a.long)));
      room = omega arith;
      long = simp length-set a.long;
    }

arc_agree : (g : Scan) (b : Book) (x : Arc) → Agree g b → Agree (arc_more g) (with_arc x b)
arc_agree g b x a =
    record {
      rules = a.rules;
      states = a.states;
      arcs = rw length-append (omega (arith, a.arcs));
      first = a.first;
      parts = a.parts;
      room = a.room;
      long = a.long;
    }

pub agree_more : (g : Scan) (b : Book) (s : List ℕ) (at : ℕ) → kind_reply s at g ≡ 0 → Agree g b → Agree (record_more s at g) (with_record s at b)
unfolding record_more with_record
agree_more g b s at e a =
    kind_rel Agree (byte s at) _ _ _ _ _ _ _ _
    (λ k. rule_agree g b (word_at s at) a)
    (λ k. state_agree g b (state_at s at b) (state_room s at g e k) a)
    (λ k. arc_agree g b (arc_at s at) a)
    a
