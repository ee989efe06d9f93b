-- Document 01: "SHOW gets a tape, an account and a line number, and hands back that stretch of the tape itself. If the line is not wholly inside
-- the account, .. or its end is past the tape, it hands back the empty part at the tape's front", and since document 02, No. 5: "SHOW gives an empty
-- stretch as an empty part at its start, and the front only when start is above end or for the other two causes".
use Rattle.std.specs.Prelude.{ℕ, ◌+◌, ◌-◌, ◌*◌, List, cond, ◌&&◌, leb, length, get_or, take, drop}
use Rattle.stretches.specs.Account.{line_length, line_start, line_end}
use Rattle.rewriter.specs.declared.shown.Bounds.{Bounds}

-- word w of line k in the words of an account; lines are counted from 0
abbrev pub word_of_line : List ℕ → ℕ → ℕ → ℕ
word_of_line lines k w = get_or lines (k * line_length + w) 0

abbrev pub start_in : List ℕ → ℕ → ℕ
start_in lines k = word_of_line lines k line_start

abbrev pub end_in : List ℕ → ℕ → ℕ
end_in lines k = word_of_line lines k line_end

abbrev pub between : ℕ → ℕ → Bounds
between i j = record { start = i; end = j }

-- how many words an account has if line k is "wholly inside" it
abbrev pub words_through : ℕ → ℕ
words_through k = line_length * (k + 1)

-- the stretch that line k names in a tape of n symbols, or the empty one at the front
unfoldable pub bounds_of : ℕ → List ℕ → ℕ → Bounds
bounds_of n lines k =
    cond (leb (words_through k) (length lines) && leb (start_in lines k) (end_in lines k) && leb (end_in lines k) n)
    (between (start_in lines k) (end_in lines k))
    (between 0 0)

-- what stands in a part of the tape
abbrev pub part_of : List ℕ → Bounds → List ℕ
part_of tape b = take (b.end - b.start) (drop b.start tape)

unfoldable pub show_def : List ℕ → List ℕ → ℕ → List ℕ
show_def tape lines k = part_of tape (bounds_of (length tape) lines k)
