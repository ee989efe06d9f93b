-- Document 01, "The two automata": "Each side's sets are numbered: 0 for the empty tape; then, for each numbered set in turn and each
-- symbol 0 to 15, the next set not met before gets the next number", and since document 02, No. 6: "Symbols run from 0 to 31, also in numbering."
-- Over any step f and any first set s.
use Rattle.std.specs.Prelude.{ℕ, zero, suc, ◌+◌, ◌*◌, ◌/◌, ◌%◌, true, false, List, [], ◌∷◌, ◌++◌, ltb, eqb, length, get_or}
use Rattle.book.specs.Format.{symbol_count}
unfoldable pub use Rattle.book.specs.Format.{pad, idx}

-- "at most 256 sets on each side"
abbrev pub most_sets : ℕ
most_sets = 256

-- the pairs of a numbered set and a symbol: 256 rows a side, and "Rows have 32 entries"
abbrev pub pairs : ℕ
pairs = symbol_count * most_sets

-- the numbered sets so far, and the next numbers so far, row after row
pub record Table : Type 0 where
  pub sets : List ℕ
  pub rows : List ℕ

-- entry a of row k; walking the rows along a tape is `after (entry rows) 0`, from its end `before 0 (entry rows)`
abbrev pub entry : List ℕ → ℕ → ℕ → ℕ
entry rows k a = get_or rows (symbol_count * k + a) 0

-- x has the number n: the row grows by n, and the sets by x where n is a new number
unfoldable pub enter : ℕ → ℕ → Table → Table
enter n x t = record { sets = elim (eqb n (length t.sets)) [ true ↦ t.sets ++ (x ∷ []) | false ↦ t.sets ]; rows = t.rows ++ (n ∷ []) }

-- "for each numbered set in turn and each symbol": pair j is set j / 32 with symbol j % 32, and this is what comes after it
unfoldable pub next : (ℕ → ℕ → ℕ) → ℕ → List ℕ → ℕ
next f j S = f (get_or S (j / symbol_count) 0) (j % symbol_count)

-- "the next set not met before gets the next number"
unfoldable pub met : ℕ → Table → Table
met x t = enter (idx t.sets x) x t

-- pair j, if there is such a set by then
unfoldable pub turn : (ℕ → ℕ → ℕ) → ℕ → Table → Table
turn f j t = elim (ltb j (symbol_count * length t.sets)) [ true ↦ met (next f j t.sets) t | false ↦ t ]

-- the table after the first j pairs: "0 for the empty tape"
unfoldable pub run : (ℕ → ℕ → ℕ) → ℕ → ℕ → Table
run f s zero = record { sets = s ∷ []; rows = [] }
run f s (suc j) = turn f j (run f s j)

-- after all pairs of the sets that may have a number
unfoldable pub all : (ℕ → ℕ → ℕ) → ℕ → Table
all f s = run f s pairs
