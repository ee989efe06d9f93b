-- What the numbering of a side means: the different sets over all tapes. `over` gives the set over a tape: read from its front for the
-- left sets, from its end for the right ones.
use Rattle.std.specs.Prelude.{ℕ, ◌<◌, ◌≡◌, List, length, get_or}
use Rattle.book.specs.Reading.{Book}
use Rattle.sets.specs.Sets.{left_first, left_next, right_last, right_prev, after, before}
use Rattle.sets.specs.Tables.{Tape}

-- the left set after a tape, the right set before it
abbrev pub left_over : Book → List ℕ → ℕ
left_over b = after (left_next b) (left_first b)

abbrev pub right_over : Book → List ℕ → ℕ
right_over b = before (right_last b) (right_prev b)

-- x is the set over some tape
pub record Reached (over : List ℕ → ℕ) (x : ℕ) : Type 0 where
  pub word : List ℕ
  pub tape : Tape word
  pub ends : over word ≡ x

-- no set stands twice
pub record Distinct (L : List ℕ) : Type 0 where
  pub once : (i j : ℕ) → i < length L → j < length L → get_or L i 0 ≡ get_or L j 0 → i ≡ j

-- "the number of different sets over all tapes of any length" is n
pub record Exactly (over : List ℕ → ℕ) (n : ℕ) : Type 0 where
  pub list : List ℕ
  pub size : length list ≡ n
  pub distinct : Distinct list
  pub reached : (i : ℕ) → i < n → Reached over (get_or list i 0)
  pub every : (w : List ℕ) → Tape w → (i : ℕ) × (i < n) × (get_or list i 0 ≡ over w)

-- it is more than n
pub record MoreThan (over : List ℕ → ℕ) (n : ℕ) : Type 0 where
  pub list : List ℕ
  pub many : n < length list
  pub distinct : Distinct list
  pub reached : (i : ℕ) → i < length list → Reached over (get_or list i 0)
