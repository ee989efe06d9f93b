-- Document 02, No. 7: "Each line ends with a newline and has tab-separated decimal numbers: source, destination, label; or one final state."
-- One line of the text, or its refusal: "20 two or four fields, else 18 not such a line or a state above 65,535, else 19 a label 0 or above 32".
use Rattle.std.specs.Prelude.{ℕ, ◌+◌, ◌-◌, List, Bool, true, false, ◌&&◌, ◌||◌, not, length, drop, ltb, leb, eqb}
use Rattle.book.specs.Format.{symbol_count}
use Rattle.att.specs.Fields.{newline, before, field_count, field1, field2, field3, is_number, value, most_state}
use Rattle.att.specs.Line.{Line, End, Final, Arc, Faulty}

-- "label k means symbol k - 1": the highest label is the number of symbols
abbrev pub labels : ℕ
labels = symbol_count

abbrev pub is_state : List ℕ → Bool
is_state f = is_number f && leb (value f) most_state

-- "Label 0 is the empty word"
abbrev pub is_label : List ℕ → Bool
is_label f = leb 1 (value f) && leb (value f) labels

-- the line, or the first of the refusals that holds
abbrev pub faulty : Bool → ℕ → Line → Line
faulty true r rest = Faulty r
faulty false r rest = rest

-- a final state; `next` is the place after the line
unfoldable pub final_line : List ℕ → ℕ → Line
final_line l next =
    faulty (not (is_state (field1 l))) 18
    (Final (value (field1 l)) next)

-- source, destination, label
unfoldable pub arc_line : List ℕ → ℕ → Line
arc_line l next =
    faulty (not (is_state (field1 l))) 18
    (faulty (not (is_state (field2 l))) 18
    (faulty (not (is_number (field3 l))) 18
    (faulty (not (is_label (field3 l))) 19
    (Arc (value (field1 l)) (value (field2 l)) (value (field3 l) - 1) next))))

abbrev pub pick_line : Bool → Line → Line → Line
pick_line true a b = a
pick_line false a b = b

-- the line l, without its newline; `ended` where it has one
unfoldable pub line_in : List ℕ → Bool → ℕ → Line
line_in l ended next =
    faulty (eqb (field_count l) 2 || eqb (field_count l) 4) 20
    (faulty (not ended) 18
    (pick_line (eqb (field_count l) 1) (final_line l next)
    (pick_line (eqb (field_count l) 3) (arc_line l next)
    (Faulty 18))))

-- the line at the front of a text
abbrev pub line_of : List ℕ → List ℕ
line_of s = before newline s

abbrev pub ended : List ℕ → Bool
ended s = ltb (length (line_of s)) (length s)

-- the line that starts at `at`
unfoldable pub line_at : List ℕ → ℕ → Line
line_at s at =
    pick_line (leb (length s) at) End
    (pick_line (ended (drop at s)) (line_in (line_of (drop at s)) true (at + length (line_of (drop at s)) + 1))
    (line_in (line_of (drop at s)) false 0))
