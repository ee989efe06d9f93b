-- What the forward passes stand on, and nothing else of the builder: an accepted book, its outline, and a tape with workspace and scratch that
-- say which set stands where.
use Rattle.std.specs.Prelude.{ℕ, ◌≤◌, ◌<◌, ◌≡◌, List, length, get_or}
use Rattle.book.specs.Format.{symbol_count}
use Rattle.book.specs.Reading.{Book, check_def, book_of}
use Rattle.book.specs.Sound.{Sound}
use Rattle.book.specs.Outline.{Placed, Masked}
use Rattle.sets.specs.Sets.{left_first, left_next, right_at}
use Rattle.sets.specs.Focus.{focus_step}
use Rattle.sets.specs.Numbering.{most_sets}
use Rattle.sets.specs.Workspace.{row_bytes, set_words}
use Rattle.sets.specs.Tables.{left_count, left_entry, left_set, right_set}
use Rattle.stretches.specs.Buffers.{longest_tape}
use Rattle.stretches.specs.declared.steps.Steps.{Steps}

-- what the masks say of an accepted book
pub record Tests (b : Book) (rules : ℕ) (masks : List ℕ) : Type 0 where
  -- the book is one that CHECK accepts: the laws of its sets need it
  pub sound : Sound b
  -- the rules that are tested, 0 up to and not including this number, are the book's
  pub many : rules ≡ length b.words
  -- the masks are those of its states, each where it belongs
  pub masked : Masked b.states masks

-- what is computed once from an accepted book
pub record Outlined (b : Book) (rules : ℕ) (places masks : List ℕ) : Type 0 where
  -- where each state's record stands: the step of the focus reads its arcs
  pub placed : Placed b.states places
  -- the masks: starts and ends of candidates are tested with them
  pub tests : Tests b rules masks

-- workspace and scratch after BUILD and the backward pass; what is said of the left rows and sets is said in `Tables`
pub record Ready (book tape rows sets scratch : List ℕ) : Type 0 where
  -- the book is one that CHECK accepts
  pub accepted : (check_def book).reply ≡ 0
  -- every read of rows, sets and scratch is inside
  pub rows_room : row_bytes ≤ length rows
  pub sets_room : set_words ≤ length sets
  pub scratch_room : length tape < length scratch
  -- no count and no origin wraps
  pub tape_fits : length tape ≤ longest_tape
  -- every symbol has an entry in a row
  pub symbols : (i : ℕ) → i < length tape → get_or tape i 0 < symbol_count
  -- the scratch holds at each position, the tape's end among them, the number of the right set there
  pub right : (j : ℕ) → j ≤ length tape → right_set sets (get_or scratch j 0) ≡ right_at (book_of book) tape j
  -- the left sets, as a pass walks over them: their number, the first, and the step from one to the next
  pub few : left_count book ≤ most_sets
  pub left_some : 0 < left_count book
  pub left_first_lem : left_set sets 0 ≡ left_first (book_of book)
  pub left_below_lem : (k a : ℕ) → k < left_count book → a < symbol_count → left_entry rows k a < left_count book
  pub left_next_lem : (k a : ℕ) → k < left_count book → a < symbol_count → left_set sets (left_entry rows k a) ≡ left_next (book_of book) (left_set sets k) a

-- of that, what the walk from one position stands on
pub record RightSets (book tape sets scratch : List ℕ) : Type 0 where
  -- the book is one that CHECK accepts
  pub accepted : (check_def book).reply ≡ 0
  -- every read of a right set is inside
  pub sets_room : set_words ≤ length sets
  pub scratch_room : length tape < length scratch
  -- the scratch holds at each position the number of the right set there
  pub right : (j : ℕ) → j ≤ length tape → right_set sets (get_or scratch j 0) ≡ right_at (book_of book) tape j

-- how many steps of the focus a pass remembers
abbrev pub slot_count : ℕ
slot_count = 16

-- each of them is a step of the book
pub record Remembers (b : Book) (s : Steps) : Type 0 where
  -- a set before and a set after each step, and a symbol
  pub before_room : length s.before ≡ slot_count
  pub after_room : length s.after ≡ slot_count
  pub symbols_room : length s.symbols ≡ slot_count
  -- what stands after is the step of what stands before, so that it can be taken without being computed
  pub step : (k : ℕ) → k < slot_count → get_or s.after k 0 ≡ focus_step b (get_or s.before k 0) (get_or s.symbols k 0)
