-- Document 01, "The two automata" and "Reply numbers": the workspace, and what BUILD answers and leaves for any book, rows and sets.
use Rattle.std.specs.Prelude.{ℕ, ◌+◌, cond, not, ◌||◌, List, [], ◌++◌, ltb, eqb, length, drop}
use Rattle.book.specs.Reading.{Book, check_def, book_of}
use Rattle.sets.specs.Sets.{left_first, left_next, right_last, right_prev}
use Rattle.sets.specs.Numbering.{most_sets, pairs, Table, all, pad}
use Rattle.sets.specs.declared.Built.{Built}

-- "left rows, then right rows: 256 rows [..] a side", and "512 64-bit sets (left, then right)"; document 02, No. 6: "Rows have 32 entries, so the
-- byte workspace is 16,384 bytes."
abbrev pub row_bytes : ℕ
row_bytes = pairs + pairs

abbrev pub set_words : ℕ
set_words = most_sets + most_sets

-- the two sides; entry a of a right row is the number of the set with symbol a put in front
unfoldable pub left_table : Book → Table
left_table b = all (left_next b) (left_first b)

unfoldable pub right_table : Book → Table
right_table b = all (right_prev b) (right_last b)

-- what stands after BUILD
pub record AfterBuild : Type 0 where
  pub answer : Built
  pub rows : List ℕ
  pub sets : List ℕ

abbrev pub build_leaves : Built → List ℕ → List ℕ → AfterBuild
build_leaves answer rows sets = record { answer = answer; rows = rows; sets = sets }

-- "Every refusal returns 0 for these."
abbrev pub refusal : ℕ → ℕ → Built
refusal reply place = record { reply = reply; place = place; left = 0; right = 0 }

-- "1 to 12 change no buffer."
abbrev pub unchanged : ℕ → ℕ → List ℕ → List ℕ → AfterBuild
unchanged reply place rows sets = build_leaves (refusal reply place) rows sets

-- "13 and 14 leave the workspace parts all 0 and nothing else changed."
abbrev pub cleared : ℕ → List ℕ → List ℕ → AfterBuild
cleared reply rows sets = build_leaves (refusal reply 0) (pad row_bytes [] ++ drop row_bytes rows) (pad set_words [] ++ drop set_words sets)

-- "Entries past a count are 0." "Bytes past these parts keep their values."
abbrev pub filled : Table → Table → List ℕ → List ℕ → AfterBuild
filled left right rows sets =
    build_leaves (record { reply = 0; place = 0; left = length left.sets; right = length right.sets })
    (pad pairs left.rows ++ (pad pairs right.rows ++ drop row_bytes rows))
    (pad most_sets left.sets ++ (pad most_sets right.sets ++ drop set_words sets))

-- an accepted book and a workspace that is long enough: 13 more than 256 left sets, 14 more than 256 right sets
unfoldable pub numbered : Table → Table → List ℕ → List ℕ → AfterBuild
numbered left right rows sets =
    cond (ltb most_sets (length left.sets)) (cleared 13 rows sets)
    (cond (ltb most_sets (length right.sets)) (cleared 14 rows sets)
    (filled left right rows sets))

-- "CHECK gives 1 to 8; BUILD adds 11, 13, 14": 11 workspace too short, either piece
unfoldable pub build_def : List ℕ → List ℕ → List ℕ → AfterBuild
build_def book rows sets =
    cond (not (eqb (check_def book).reply 0)) (unchanged (check_def book).reply (check_def book).place rows sets)
    (cond (ltb (length rows) row_bytes || ltb (length sets) set_words) (unchanged 11 0 rows sets)
    (numbered (left_table (book_of book)) (right_table (book_of book)) rows sets))
