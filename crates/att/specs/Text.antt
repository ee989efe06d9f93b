-- Document 02, No. 7: the text as a list of lines, its states "numbered from a given first number by first appearance", the records that are
-- written, and what IMPORT answers and leaves.
use Rattle.std.specs.Prelude.{ℕ, zero, suc, ◌+◌, ◌*◌, List, [], ◌∷◌, ◌++◌, Bool, true, false, ◌||◌, cond, length, ltb, eqb}
use Rattle.book.specs.Format.{most_states, most_arcs, state_kind, arc_kind, right_part, start_flag, accept_flag, state_size, arc_size, onto}
unfoldable pub use Rattle.book.specs.Format.{idx}
use Rattle.book.specs.declared.Written.{Written}
use Rattle.att.specs.Reading.{line_at}
use Rattle.att.specs.Line.{Line, End, Final, Arc, Faulty}

-- what a line says: an arc by source, destination and symbol; or a final state
pub data Said : Type 0 where
  arc : ℕ → ℕ → ℕ → Said
  final : ℕ → Said

pub data Read : Type 0 where
  refused : ℕ → ℕ → Read
  accepted : List Said → Read

-- after the lines ls, the line at `at`, and the rest by `go`: "by the first faulty line, with its offset"
abbrev pub turn : Line → ℕ → List Said → (ℕ → List Said → Read) → Read
turn End at ls go = accepted ls
turn (Final x next) at ls go = go next (ls ++ (final x ∷ []))
turn (Arc x y a next) at ls go = go next (ls ++ (arc x y a ∷ []))
turn (Faulty r) at ls go = refused r at

-- the lines from `at` on, after the lines ls; at most n lines
unfoldable pub read_from : ℕ → List ℕ → ℕ → List Said → Read
read_from zero s at ls = accepted ls
read_from (suc n) s at ls = turn (line_at s at) at ls (λ (next : ℕ) (more : List Said). read_from n s next more)

-- each line has a byte at least
unfoldable pub read_text : List ℕ → Read
read_text s = read_from (suc (length s)) s 0 []

-- the states with x, a new one at the end
unfoldable pub add : List ℕ → ℕ → List ℕ
add S x = elim (ltb (idx S x) (length S)) [ true ↦ S | false ↦ S ++ (x ∷ []) ]

abbrev pub add_line : List ℕ → Said → List ℕ
add_line S (arc x y a) = add (add S x) y
add_line S (final x) = add S x

unfoldable pub names_from : List ℕ → List Said → List ℕ
names_from S [] = S
names_from S (l ∷ ls) = names_from (add_line S l) ls

-- the states of the text in the order of first appearance
unfoldable pub names : List Said → List ℕ
names ls = names_from [] ls

abbrev pub arc_one : Said → ℕ
arc_one (arc x y a) = 1
arc_one (final x) = 0

unfoldable pub arc_count : List Said → ℕ
arc_count [] = 0
arc_count (l ∷ ls) = arc_one l + arc_count ls

abbrev pub final_for : Said → ℕ → Bool
final_for (arc x y a) q = false
final_for (final x) q = eqb x q

unfoldable pub is_final : List Said → ℕ → Bool
is_final [] q = false
is_final (l ∷ ls) q = final_for l q || is_final ls q

abbrev pub accept : List Said → ℕ → ℕ
accept ls q = cond (is_final ls q) accept_flag 0

abbrev pub flags_from : ℕ → List Said → List ℕ → List ℕ
flags_from start ls [] = []
flags_from start ls (x ∷ S) = (start + accept ls x) ∷ flags_from 0 ls S

-- "The first line's first state is the start", which is the first of the states; "An empty text gives one state with flags 0"
unfoldable pub flags : List Said → List ℕ → List ℕ
flags ls [] = 0 ∷ []
flags ls (x ∷ S) = flags_from start_flag ls (x ∷ S)

unfoldable pub state_records : ℕ → List ℕ → List ℕ
state_records part [] = []
state_records part (f ∷ fs) = state_kind ∷ part ∷ f ∷ state_records part fs

abbrev pub arc_record : ℕ → List ℕ → Said → List ℕ
arc_record first S (arc x y a) = arc_kind ∷ (first + idx S x) ∷ a ∷ a ∷ (first + idx S y) ∷ []
arc_record first S (final x) = []

unfoldable pub arc_records : ℕ → List ℕ → List Said → List ℕ
arc_records first S [] = []
arc_records first S (l ∷ ls) = arc_record first S l ++ arc_records first S ls

-- "States are written first, then arcs in text order."
unfoldable pub written : ℕ → ℕ → List Said → List ℕ
written part first ls = state_records part (flags ls (names ls)) ++ arc_records first (names ls) ls

-- the numbers of states and of bytes
abbrev pub state_count : List Said → ℕ
state_count ls = length (flags ls (names ls))

abbrev pub bytes_of : ℕ → ℕ → ℕ
bytes_of states arcs = state_size * states + arc_size * arcs

abbrev pub needed : List Said → ℕ
needed ls = bytes_of (state_count ls) (arc_count ls)

abbrev pub refusal : ℕ → ℕ → Written
refusal r p = record { reply = r; place = p; length = 0 }

-- "then 21 more than 512 arcs or a state number above 63; then 15 with the bytes needed"; "Acceptance returns the length written"
unfoldable pub answer_by : ℕ → ℕ → ℕ → ℕ → Written
answer_by arcs states first room =
    elim (ltb most_arcs arcs || ltb most_states (first + states)) [
      | true ↦ refusal 21 0
      | false ↦ elim (ltb room (bytes_of states arcs)) [
        | true ↦ refusal 15 (bytes_of states arcs)
        | false ↦ record { reply = 0; place = 0; length = bytes_of states arcs }
      ]
    ]

abbrev pub answer_read : ℕ → ℕ → Read → Written
answer_read first room (refused r p) = refusal r p
answer_read first room (accepted ls) = answer_by (arc_count ls) (state_count ls) first room

-- the lines of an accepted text
abbrev pub lines_in : Read → List Said
lines_in (refused r p) = []
lines_in (accepted ls) = ls

-- "Refusals, nothing written: 5 for a part above 2", then the text's own
unfoldable pub answer_of : List ℕ → ℕ → ℕ → ℕ → Written
answer_of s part first room = elim (ltb right_part part) [ true ↦ refusal 5 0 | false ↦ answer_read first room (read_text s) ]

-- what IMPORT answers, and every byte of the output then
pub record AfterImport : Type 0 where
  pub answer : Written
  pub out : List ℕ

abbrev pub import_leaves : Written → List ℕ → AfterImport
import_leaves answer out = record { answer = answer; out = out }

unfoldable pub import_def : List ℕ → ℕ → ℕ → List ℕ → AfterImport
import_def s part first out =
    import_leaves (answer_of s part first (length out))
    (cond (eqb (answer_of s part first (length out)).reply 0) (onto (written part first (lines_in (read_text s))) out) out)
