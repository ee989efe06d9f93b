-- What document 02, No. 6, leaves as it was is said of BUILD as it was before, when symbols ran from 0 to 15: here with the first w symbols, for any
-- w, and rows of w entries; with as many as there are now it is BUILD as it is. No contract uses these.
use Rattle.std.specs.Prelude.{ℕ, zero, suc, ◌+◌, ◌*◌, ◌/◌, ◌%◌, ◌≤◌, ◌<◌, ◌≡◌, cond, not, true, false, ◌||◌, List, [], ◌∷◌, ◌++◌, ltb, eqb, length, get_or, drop}
use Rattle.book.specs.Format.{symbol_count}
use Rattle.book.specs.Reading.{Book}
use Rattle.book.specs.Before.{check_below, book_below}
use Rattle.sets.specs.Sets.{left_first, left_next, right_last, right_prev}
use Rattle.sets.specs.Numbering.{most_sets, Table, met, pad}
use Rattle.sets.specs.Workspace.{set_words, AfterBuild, build_leaves, refusal, unchanged}
use Rattle.sets.specs.Tables.{left_entry, right_entry}

-- pair j is set j / w with symbol j % w
unfoldable pub next_below : ℕ → (ℕ → ℕ → ℕ) → ℕ → List ℕ → ℕ
next_below w f j S = f (get_or S (j / w) 0) (j % w)

unfoldable pub turn_below : ℕ → (ℕ → ℕ → ℕ) → ℕ → Table → Table
turn_below w f j t = elim (ltb j (w * length t.sets)) [ true ↦ met (next_below w f j t.sets) t | false ↦ t ]

unfoldable pub run_below : ℕ → (ℕ → ℕ → ℕ) → ℕ → ℕ → Table
run_below w f s zero = record { sets = s ∷ []; rows = [] }
run_below w f s (suc j) = turn_below w f j (run_below w f s j)

-- the pairs of a side, and the bytes of both
abbrev pub pairs_below : ℕ → ℕ
pairs_below w = most_sets * w

abbrev pub bytes_below : ℕ → ℕ
bytes_below w = pairs_below w + pairs_below w

unfoldable pub left_below : ℕ → Book → Table
left_below w b = run_below w (left_next b) (left_first b) (pairs_below w)

unfoldable pub right_below : ℕ → Book → Table
right_below w b = run_below w (right_prev b) (right_last b) (pairs_below w)

-- 13 and 14; acceptance
abbrev pub cleared_below : ℕ → ℕ → List ℕ → List ℕ → AfterBuild
cleared_below w reply rows sets =
    build_leaves (refusal reply 0) (pad (bytes_below w) [] ++ drop (bytes_below w) rows) (pad set_words [] ++ drop set_words sets)

abbrev pub filled_below : ℕ → Table → Table → List ℕ → List ℕ → AfterBuild
filled_below w left right rows sets =
    build_leaves (record { reply = 0; place = 0; left = length left.sets; right = length right.sets })
    (pad (pairs_below w) left.rows ++ (pad (pairs_below w) right.rows ++ drop (bytes_below w) rows))
    (pad most_sets left.sets ++ (pad most_sets right.sets ++ drop set_words sets))

unfoldable pub numbered_below : ℕ → Table → Table → List ℕ → List ℕ → AfterBuild
numbered_below w left right rows sets =
    cond (ltb most_sets (length left.sets)) (cleared_below w 13 rows sets)
    (cond (ltb most_sets (length right.sets)) (cleared_below w 14 rows sets)
    (filled_below w left right rows sets))

unfoldable pub build_below : ℕ → List ℕ → List ℕ → List ℕ → AfterBuild
build_below w book rows sets =
    cond (not (eqb (check_below w book).reply 0)) (unchanged (check_below w book).reply (check_below w book).place rows sets)
    (cond (ltb (length rows) (bytes_below w) || ltb (length sets) set_words) (unchanged 11 0 rows sets)
    (numbered_below w (left_below w (book_below w book)) (right_below w (book_below w book)) rows sets))

-- the rows of before and of now agree on the first w entries; the others are 0, the number of the empty tape's set
pub record SameRows (w : ℕ) (old now : List ℕ) : Type 0 where
  pub left : (k a : ℕ) → k < most_sets → a < w → left_entry now k a ≡ get_or old (k * w + a) 0
  pub right : (k a : ℕ) → k < most_sets → a < w → right_entry now k a ≡ get_or old (pairs_below w + (k * w + a)) 0
  pub left_new : (k a : ℕ) → k < most_sets → w ≤ a → a < symbol_count → left_entry now k a ≡ 0
  pub right_new : (k a : ℕ) → k < most_sets → w ≤ a → a < symbol_count → right_entry now k a ≡ 0

-- reply, place and counts are the same, and so are the sets, past the parts too
pub record AsBefore (w : ℕ) (old now : AfterBuild) : Type 0 where
  pub answer : now.answer ≡ old.answer
  pub sets : now.sets ≡ old.sets
  pub rows : SameRows w old.rows now.rows
