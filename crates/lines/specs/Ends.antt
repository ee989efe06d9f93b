-- The starts of a tape and their ends, as the passes of the account come to them: what each of them knows, and which comes next.
use Rattle.std.specs.Prelude.{ℕ, ◌≤◌, ◌<◌, ◌≡◌, List, length, T}
use Rattle.book.specs.Reading.{Book, book_of}
use Rattle.book.specs.Language.{Rules}
use Rattle.sets.specs.Sets.{left_at, right_at}
use Rattle.sets.specs.Focus.{focus_at}
use Rattle.sets.specs.Tables.{left_count, left_set}
use Rattle.stretches.specs.Candidates.{candidate}

-- k is the number of the left set at i
pub record LeftIs (book t sets : List ℕ) (k i : ℕ) : Type 0 where
  pub below : k < left_count book
  pub is : left_set sets k ≡ left_at (book_of book) t i

-- the walk from i has come to j: its focus states there, and the right set
pub record EndSets (b : Book) (t : List ℕ) (i j set right : ℕ) : Type 0 where
  pub low : i ≤ j
  pub high : j ≤ length t
  pub states : set ≡ focus_at b t i j
  pub here : right ≡ right_at b t j

-- the same where j may be past the tape's end: no state is left there
pub record EndsLeft (b : Book) (t : List ℕ) (i j set right : ℕ) : Type 0 where
  pub low : i ≤ j
  pub here : j ≤ length t → EndSets b t i j set right
  pub past : length t < j → set ≡ 0

-- no rule has a candidate from i that ends at j or later
abbrev pub NoneFrom : Rules → List ℕ → ℕ → ℕ → Type 0
NoneFrom b t i j = (r k : ℕ) → j ≤ k → k ≤ length t → T (candidate b t i k r) → ⊥
