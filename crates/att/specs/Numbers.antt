-- A field as the reader takes it, in one number; and a line from its fields' numbers.
use Rattle.std.specs.Prelude.{ℕ, ◌-◌, List, cond, ltb, leb, eqb}
use Rattle.att.specs.Fields.{is_number, value, most_state}
use Rattle.att.specs.Reading.{labels, faulty}
use Rattle.att.specs.Line.{Line, Final, Arc}

-- what is read of a number above 65,535, and of what is no number
abbrev pub too_high : ℕ
too_high = 65536

abbrev pub no_number : ℕ
no_number = 65537

unfoldable pub capped : ℕ → ℕ
capped v = cond (leb v most_state) v too_high

unfoldable pub read_number : List ℕ → ℕ
read_number f = cond (is_number f) (capped (value f)) no_number

unfoldable pub final_of : ℕ → ℕ → Line
final_of a next = faulty (ltb most_state a) 18 (Final a next)

unfoldable pub arc_of : ℕ → ℕ → ℕ → ℕ → Line
arc_of a b k next =
    faulty (ltb most_state a) 18
    (faulty (ltb most_state b) 18
    (faulty (eqb k no_number) 18
    (faulty (eqb k 0) 19
    (faulty (ltb labels k) 19
    (Arc a b (k - 1) next)))))
