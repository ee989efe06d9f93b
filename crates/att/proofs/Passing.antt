-- CHECK reads IMPORT's records: they pass its tests where they stand, and give the part's states and arcs. Assumes nothing.
use Prim.Native.Nat.{ℕ, zero, suc, ◌+◌, ◌*◌, ◌≤◌, ◌<◌}
use mathlib.Core.Path.{◌≡◌, refl, ap, sym, ◌∙◌}
use mathlib.Core.List.{List, [], ◌∷◌, ◌++◌, append_assoc, append-nil}
use mathlib.Core.Bool.{Bool, true, false, cond}
use native.Mathlib.Nat.{suc-add}
use native.Mathlib.Omega.{arith}
use lib.ListN.{length, drop, get_or, length-append}
use lib.Seq.{drop-drop, drop-append_seam, get_or-append-add}
use Rattle.book.specs.Format.{most_states, most_arcs, right_part, both_flags, start_flag, accept_flag, state_size, arc_size}
use Rattle.book.specs.Reading.{State, Arc, Book, read_from, with_state, with_arc}
use Rattle.book.specs.Language.{no_state, state_of}
use Rattle.book.proofs.Sound.{ArcPassed}
use Rattle.book.proofs.Records.{read_state, read_arc}
use Rattle.att.specs.Text.{Said, arc, final, idx, names, arc_count, is_final, flags_from, flags, state_records, arc_records, written, state_count, needed}
use Rattle.att.specs.Placed.{part_arcs, part_states, latest, with_part}
use Rattle.att.proofs.Filling.{records_length}
use Rattle.att.proofs.Flags.{names_few}
use Rattle.att.proofs.Symbols.{Symbols}
use Rattle.att.proofs.Words.{Named, named_from}

-- ---- the states
abbrev Flagged : List ℕ → Type 0
Flagged [] = Unit {0}
Flagged (f ∷ fs) = (f ≤ both_flags) × Flagged fs

flagged_from : (start : ℕ) (ls : List Said) (S : List ℕ) → start ≤ start_flag → Flagged (flags_from start ls S)
flagged_from start ls [] h = tt
flagged_from start ls (x ∷ S) h = (by_test (is_final ls x), flagged_from 0 ls S (omega arith))
  where
    by_test : (t : Bool) → start + cond t accept_flag 0 ≤ both_flags
    by_test true = omega arith
    by_test false = omega arith

all_flagged : (ls : List Said) (S : List ℕ) → Flagged (flags ls S)
unfolding flags
all_flagged ls [] = (omega arith, tt)
all_flagged ls (x ∷ S) = flagged_from start_flag ls (x ∷ S) (omega arith)

abbrev add_states : Book → ℕ → ℕ → List ℕ → Book
add_states b at part fs = record { words = b.words; states = b.states ++ part_states (latest b) part at fs; arcs = b.arcs; first = b.first }

read_states : (part : ℕ) (fs : List ℕ) (s : List ℕ) (at : ℕ) (b : Book) (R : List ℕ) → drop at s ≡ state_records part fs ++ R → 0 < length b.words
    → length b.states + length fs ≤ most_states → part ≤ right_part → Flagged fs → (n : ℕ)
    → read_from (length fs + n) s at b ≡ read_from n s (at + state_size * length fs) (add_states b at part fs)
unfolding state_records part_states
read_states part [] s at b R e some room low f n =
    let z : 0 + n ≡ n = omega arith in
    let y : at + state_size * 0 ≡ at = omega arith in
    rw (z, y, append-nil b.states)
read_states part (f ∷ fs) s at b R e some room low h n =
    let st : State = record { rule = latest b; part = part; flags = f; place = at } in
    let l : length (b.states ++ (st ∷ [])) ≡ length b.states + 1 = length-append b.states (st ∷ []) in
    let y : at + state_size + state_size * length fs ≡ at + state_size * suc (length fs) = omega arith in
    ap (λ (k : ℕ). read_from k s at b) (suc-add (length fs) n)
    ∙ read_state s at b some part f (state_records part fs ++ R) e (omega arith) low h.0 (length fs + n)
    ∙ read_states part fs s (at + state_size) (with_state st b) R (sym (drop-drop state_size at s) ∙ ap (drop state_size) e) some (omega arith) low h.1 n
    ∙ rw (y, append_assoc b.states (st ∷ []) (part_states (latest b) part (at + state_size) fs))

-- ---- the arcs
abbrev add_arcs : Book → List Arc → Book
add_arcs b xs = record { words = b.words; states = b.states; arcs = b.arcs ++ xs; first = b.first }

-- the states from `first` on, n of them, belong to the latest rule and to one part
record Given (b : Book) (first n part : ℕ) : Type 0 where
  latest : b.first ≤ first
  there : first + n ≤ length b.states
  of : (i : ℕ) → i < n → (state_of b (first + i)).part ≡ part

read_arcs : (first : ℕ) (S : List ℕ) (part : ℕ) (ls : List Said) (s : List ℕ) (at : ℕ) (b : Book) (R : List ℕ) → drop at s ≡ arc_records first S ls ++ R
    → 0 < length b.words → length b.arcs + arc_count ls ≤ most_arcs → Given b first (length S) part → Named S ls → Symbols ls → (n : ℕ)
    → read_from (arc_count ls + n) s at b ≡ read_from n s (at + arc_size * arc_count ls) (add_arcs b (part_arcs first S ls))
unfolding arc_records part_arcs arc_count
read_arcs first S part [] s at b R e some room g m y n =
    let z : 0 + n ≡ n = omega arith in
    let w : at + arc_size * 0 ≡ at = omega arith in
    rw (z, w, append-nil b.arcs)
read_arcs first S part (arc x y a ∷ ls) s at b R e some room g m q n =
    let t : Arc = record { from = first + idx S x; low = a; high = a; to = first + idx S y } in
    let l : length (b.arcs ++ (t ∷ [])) ≡ length b.arcs + 1 = length-append b.arcs (t ∷ []) in
    let i = m.0.0 in
    let j = m.0.1 in
    let there = g.there in
    let from = g.latest in
    let passed : ArcPassed b t = record {
      room = omega arith;
      order = omega arith;
      top = q.0;
      from = (omega arith, omega arith);
      to = (omega arith, omega arith);
      part = g.of (idx S x) i ∙ sym (g.of (idx S y) j);
    } in
    let c : 1 + arc_count ls + n ≡ suc (arc_count ls + n) = omega arith in
    let w : at + arc_size + arc_size * arc_count ls ≡ at + arc_size * (1 + arc_count ls) = omega arith in
    ap (λ (k : ℕ). read_from k s at b) c
    ∙ read_arc s at b some t (arc_records first S ls ++ R) e passed (arc_count ls + n)
    ∙ read_arcs first S part ls s (at + arc_size) (with_arc t b) R (sym (drop-drop arc_size at s) ∙ ap (drop arc_size) e) some (omega arith)
    (record { latest = g.latest; there = g.there; of = g.of }) m.1 q.1 n
    ∙ rw (w, append_assoc b.arcs (t ∷ []) (part_arcs first S ls))
read_arcs first S part (final x ∷ ls) s at b R e some room g m q n =
    let c : 0 + arc_count ls ≡ arc_count ls = omega arith in
    rw c (read_arcs first S part ls s at b R e some (omega arith) g m.1 q n)

-- ---- the part
-- a state of the part, in the order of its flags
pub part_state : (rule part at : ℕ) (fs : List ℕ) (i : ℕ) → i < length fs
    → get_or (part_states rule part at fs) i no_state ≡ record { rule = rule; part = part; flags = get_or fs i 0; place = at + state_size * i }
unfolding part_states
part_state rule part at [] i l = let z : ⊥ = omega arith in absurd z
part_state rule part at (f ∷ fs) zero l =
    let e : at ≡ at + state_size * 0 = omega arith in
    λ j. record { rule = rule; part = part; flags = f; place = e j }
part_state rule part at (f ∷ fs) (suc i) l =
    let e : at + state_size + state_size * i ≡ at + state_size * suc i = omega arith in
    part_state rule part (at + state_size) fs i (omega arith) ∙ (λ j. record { rule = rule; part = part; flags = get_or fs i 0; place = e j })

pub part_long : (rule part at : ℕ) (fs : List ℕ) → length (part_states rule part at fs) ≡ length fs
unfolding part_states
part_long rule part at [] = refl
part_long rule part at (f ∷ fs) = ap suc (part_long rule part (at + state_size) fs)

-- what CHECK needs of the book before the part
pub record Fits (b : Book) (part : ℕ) (ls : List Said) : Type 0 where
  pub some : 0 < length b.words
  pub first : b.first ≤ length b.states
  pub states : length b.states + state_count ls ≤ most_states
  pub arcs : length b.arcs + arc_count ls ≤ most_arcs
  pub low : part ≤ right_part
  pub symbols : Symbols ls

module _ (s : List ℕ) (at : ℕ) (b : Book) (part : ℕ) (ls : List Said) (R : List ℕ) (h : Fits b part ls) where
  abbrev fs : List ℕ
  fs = flags ls (names ls)

  abbrev first : ℕ
  first = length b.states

  new_state : (i : ℕ) → i < length fs → get_or (b.states ++ part_states (latest b) part at fs) (first + i) no_state
      ≡ record { rule = latest b; part = part; flags = get_or fs i 0; place = at + state_size * i }
  new_state i l = get_or-append-add b.states (part_states (latest b) part at fs) i no_state ∙ part_state (latest b) part at fs i l

  given : Given (add_states b at part fs) first (length (names ls)) part
  given =
      let e = names_few ls in
      let a = length-append b.states (part_states (latest b) part at fs) in
      let c = part_long (latest b) part at fs in
      record {
        latest = h.first;
        there = omega arith;
        of = λ i l. ap (λ (st : State). st.part) (new_state i (omega arith));
      }

  pub read_part : drop at s ≡ written part first ls ++ R → (n : ℕ)
      → read_from (state_count ls + (arc_count ls + n)) s at b ≡ read_from n s (at + needed ls) (with_part b at part ls)
  unfolding written names
  read_part e n =
      let d : drop at s ≡ state_records part fs ++ (arc_records first (names ls) ls ++ R) = e
      ∙ append_assoc (state_records part fs) (arc_records first (names ls) ls) R in
      let l = records_length part fs in
      let f : drop (at + state_size * length fs) s ≡ arc_records first (names ls) ls ++ R
      = sym (drop-drop (state_size * length fs) at s) ∙ rw (d, ← l) (drop-append_seam (state_records part fs) (arc_records first (names ls) ls ++ R)) in
      let y : at + state_size * length fs + arc_size * arc_count ls ≡ at + needed ls = omega arith in
      read_states part fs s at b (arc_records first (names ls) ls ++ R) d h.some h.states h.low (all_flagged ls (names ls)) (arc_count ls + n)
      ∙ read_arcs first (names ls) part ls s (at + state_size * length fs) (add_states b at part fs) R f h.some h.arcs given (named_from [] ls)
      h.symbols n
      ∙ ap (λ (m : ℕ). read_from n s m (with_part b at part ls)) y
