-- The meaning of a book: its records, one after the other, give rules, states and arcs, or a refusal with its place.
use Rattle.std.specs.Prelude.{ℕ, zero, suc, ◌+◌, ◌-◌, List, [], ◌∷◌, ◌++◌, map, Bool, true, false, length, take, drop, ltb, eqb}
use Rattle.book.specs.Format.{end_kind, end_size, length_at, symbols_at, part_at, flags_at, from_at, low_at, high_at, to_at, byte, record_size, by_kind, record_reply}
use Rattle.book.specs.declared.Checked.{Checked}
use Rattle.book.specs.declared.Scan.{Scan}

-- "part (0 left, 1 focus, 2 right); flags (1 start, 2 accept, 3 both, 0 neither)"; "A state belongs to the latest rule";
-- place is the offset of its record
pub record State : Type 0 where
  pub rule : ℕ
  pub part : ℕ
  pub flags : ℕ
  pub place : ℕ

-- "An arc is open to each symbol from lowest to highest"
pub record Arc : Type 0 where
  pub from : ℕ
  pub low : ℕ
  pub high : ℕ
  pub to : ℕ

-- what the records so far have given: the rules' words, the states, the arcs, "numbered from 0 as they appear";
-- and the number of the first state of the latest rule
pub record Book : Type 0 where
  pub words : List (List ℕ)
  pub states : List State
  pub arcs : List Arc
  pub first : ℕ

abbrev pub empty : Book
empty = record { words = []; states = []; arcs = []; first = 0 }

abbrev pub part_of : State → ℕ
part_of st = st.part

-- what the tests of a record look at
abbrev pub scan_of : Book → Scan
scan_of b = record { rules = length b.words; states = length b.states; arcs = length b.arcs; first = b.first; parts = map part_of b.states }

-- the record at `at`
abbrev pub word_at : List ℕ → ℕ → List ℕ
word_at s at = take (byte s (at + length_at)) (drop (at + symbols_at) s)

abbrev pub state_at : List ℕ → ℕ → Book → State
state_at s at b = record { rule = length b.words - 1; part = byte s (at + part_at); flags = byte s (at + flags_at); place = at }

abbrev pub arc_at : List ℕ → ℕ → Arc
arc_at s at = record { from = byte s (at + from_at); low = byte s (at + low_at); high = byte s (at + high_at); to = byte s (at + to_at) }

-- the book with that record
abbrev pub with_rule : List ℕ → Book → Book
with_rule w b = record { words = b.words ++ (w ∷ []); states = b.states; arcs = b.arcs; first = length b.states }

abbrev pub with_state : State → Book → Book
with_state st b = record { words = b.words; states = b.states ++ (st ∷ []); arcs = b.arcs; first = b.first }

abbrev pub with_arc : Arc → Book → Book
with_arc a b = record { words = b.words; states = b.states; arcs = b.arcs ++ (a ∷ []); first = b.first }

unfoldable pub with_record : List ℕ → ℕ → Book → Book
with_record s at b = by_kind (byte s at) (with_rule (word_at s at) b) (with_state (state_at s at b) b) (with_arc (arc_at s at) b) b

pub data Read : Type 0 where
  refused : ℕ → ℕ → Read
  accepted : Book → Read

-- "8: a byte follows the end record; its offset"
abbrev pub ended : Bool → ℕ → Book → Read
ended true at b = refused 8 (at + end_size)
ended false at b = accepted b

-- "Records are tested from the front": the records from `at` on, after those that gave b; at most n records
unfoldable pub read_from : ℕ → List ℕ → ℕ → Book → Read
read_from zero s at b = refused 1 at
read_from (suc n) s at b =
    elim (record_reply s at (scan_of b)) [
      | zero ↦ elim (eqb (byte s at) end_kind) [
        | true ↦ ended (ltb (at + end_size) (length s)) at b
        | false ↦ read_from n s (at + record_size (byte s at)) (with_record s at b)
      ]
      | suc r ↦ refused (suc r) at
    ]

-- each record has a byte at least, so there are never more records than bytes
unfoldable pub read_book : List ℕ → Read
read_book s = read_from (suc (length s)) s 0 empty

-- "Accepted, CHECK returns the counts of rules, states and arcs. Every refusal returns 0 for these."
abbrev pub answer : Read → Checked
answer (refused r p) = record { reply = r; place = p; rules = 0; states = 0; arcs = 0 }
answer (accepted b) = record { reply = 0; place = 0; rules = length b.words; states = length b.states; arcs = length b.arcs }

unfoldable pub check_def : List ℕ → Checked
check_def s = answer (read_book s)

-- the rules, states and arcs of an accepted book
abbrev pub book_in : Read → Book
book_in (refused r p) = empty
book_in (accepted b) = b

unfoldable pub book_of : List ℕ → Book
book_of s = book_in (read_book s)
