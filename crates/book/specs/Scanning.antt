-- What the reader keeps of the records so far, with a record more: for the contracts of inner functions. `Reading` says what the records mean.
use Rattle.std.specs.Prelude.{ℕ, ◌+◌, List, cond, set, length, leb, ltb, eqb}
use Rattle.book.specs.declared.Scan.{Scan}
use Rattle.book.specs.Format.{part_at, byte, record_size, by_kind}

-- what is given with a record more
abbrev pub rule_more : Scan → Scan
rule_more g = record { rules = g.rules + 1; states = g.states; arcs = g.arcs; first = g.states; parts = g.parts }

abbrev pub state_more : ℕ → Scan → Scan
state_more part g = record { rules = g.rules; states = g.states + 1; arcs = g.arcs; first = g.first; parts = set g.parts g.states part }

abbrev pub arc_more : Scan → Scan
arc_more g = record { rules = g.rules; states = g.states; arcs = g.arcs + 1; first = g.first; parts = g.parts }

unfoldable pub record_more : List ℕ → ℕ → Scan → Scan
record_more s at g = by_kind (byte s at) (rule_more g) (state_more (byte s (at + part_at)) g) (arc_more g) g

-- "missing kind 1, then 2, cut body 1": 0 where a whole record of a known kind stands at `at`
unfoldable pub whole_reply : List ℕ → ℕ → ℕ
whole_reply s at =
    cond (leb (length s) at) 1
    (cond (eqb (record_size (byte s at)) 0) 2
    (cond (ltb (length s) (at + record_size (byte s at))) 1
    0))
