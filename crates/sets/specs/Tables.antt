-- A built workspace, said evenly for both sides: what a reader of the rows and the sets needs to know of BUILD, and nothing of how.
use Rattle.std.specs.Prelude.{ℕ, ◌+◌, ◌*◌, ◌≤◌, ◌<◌, ◌≡◌, List, [], ◌∷◌, length, get_or}
use Rattle.book.specs.Format.{symbol_count}
use Rattle.book.specs.Reading.{check_def, book_of}
use Rattle.sets.specs.Sets.{left_first, left_next, right_last, right_prev}
use Rattle.sets.specs.Numbering.{most_sets, pairs, entry}
use Rattle.sets.specs.Workspace.{row_bytes, set_words, left_table, right_table, build_def}

-- "BUILD the two set counts"
unfoldable pub left_count : List ℕ → ℕ
left_count book = length (left_table (book_of book)).sets

unfoldable pub right_count : List ℕ → ℕ
right_count book = length (right_table (book_of book)).sets

-- "left rows, then right rows", 256 a side: entry a of row k
abbrev pub left_entry : List ℕ → ℕ → ℕ → ℕ
left_entry rows k a = entry rows k a

abbrev pub right_entry : List ℕ → ℕ → ℕ → ℕ
right_entry rows k a = get_or rows (pairs + k * symbol_count + a) 0

-- "512 64-bit sets (left, then right)": the set of number k
abbrev pub left_set : List ℕ → ℕ → ℕ
left_set sets k = get_or sets k 0

abbrev pub right_set : List ℕ → ℕ → ℕ
right_set sets k = get_or sets (most_sets + k) 0

-- "Symbols run from 0 to 31": what a walk over the rows is made along
abbrev pub Tape : List ℕ → Type 0
Tape [] = Unit {0}
Tape (a ∷ w) = (a < symbol_count) × Tape w

-- a book and a workspace that BUILD does not refuse at once
pub record Buildable (book R S : List ℕ) : Type 0 where
  pub accepted : (check_def book).reply ≡ 0
  pub rows : row_bytes ≤ length R
  pub sets : set_words ≤ length S

-- rows and sets are as BUILD leaves them for the book: it would accept, and change nothing
pub record AsBuilt (book rows sets : List ℕ) : Type 0 where
  pub accepts : (build_def book rows sets).answer.reply ≡ 0
  pub same_rows : (build_def book rows sets).rows ≡ rows
  pub same_sets : (build_def book rows sets).sets ≡ sets

-- each field for the left and for the right side
pub record Tables (book rows sets : List ℕ) : Type 0 where
  -- both pieces of the workspace are whole: rows and sets are read without a test of their lengths
  pub rows_room : row_bytes ≤ length rows
  pub sets_room : set_words ≤ length sets
  -- at most 256 sets: a number is a byte, as the rows and the scratch hold it
  pub left_few : left_count book ≤ most_sets
  -- there is a set of number 0, and it is that of the empty tape: a walk begins with it
  pub left_some : 0 < left_count book
  pub left_first_lem : left_set sets 0 ≡ left_first (book_of book)
  -- an entry of a numbered set's row is a number, so a walk stays among the numbered sets; and it is the number of the next set
  pub left_below_lem : (k a : ℕ) → k < left_count book → a < symbol_count → left_entry rows k a < left_count book
  pub left_next_lem : (k a : ℕ) → k < left_count book → a < symbol_count → left_set sets (left_entry rows k a) ≡ left_next (book_of book) (left_set sets k) a
  -- no set has two numbers: the number that a walk gives is the one of the numbering
  pub left_once : (i j : ℕ) → i < left_count book → j < left_count book → left_set sets i ≡ left_set sets j → i ≡ j
  -- the same on the right, where the empty tape's set is the last one and an entry is the number of the set with a symbol put in front
  pub right_few : right_count book ≤ most_sets
  pub right_some : 0 < right_count book
  pub right_first : right_set sets 0 ≡ right_last (book_of book)
  pub right_below_lem : (k a : ℕ) → k < right_count book → a < symbol_count → right_entry rows k a < right_count book
  pub right_next : (k a : ℕ) → k < right_count book → a < symbol_count → right_set sets (right_entry rows k a) ≡ right_prev (book_of book) (right_set sets k) a
  pub right_once : (i j : ℕ) → i < right_count book → j < right_count book → right_set sets i ≡ right_set sets j → i ≡ j
