-- What the builder's inner functions are lent and leave: either side by one function, `back` for the right one.
use Rattle.std.specs.Prelude.{ℕ, ◌+◌, ◌≤◌, ◌<◌, ◌≡◌, Bool, true, false, cond, Option, None, Some, List, [], length, take, drop, ltb}
use Rattle.book.specs.Format.{from_at, to_at}
use Rattle.book.specs.Reading.{Book}
use Rattle.sets.specs.Sets.{left_first, left_next, right_last, right_prev}
use Rattle.sets.specs.Numbering.{most_sets, pairs, idx, Table, all, pad}
use Rattle.sets.specs.declared.sides.Side.{Side}
use Rattle.sets.specs.declared.sides.Side.TheVariants.{Left, Right}

abbrev pub back : Side → Bool
back Left = false
back Right = true

-- where an arc's record names the state that a step leaves, and the one that it leads to
abbrev pub source : Side → ℕ
source Left = from_at
source Right = to_at

abbrev pub target : Side → ℕ
target Left = to_at
target Right = from_at

unfoldable pub side_first : Book → Bool → ℕ
side_first b back = cond back (right_last b) (left_first b)

unfoldable pub side_step : Book → Bool → ℕ → ℕ → ℕ
side_step b back set a = cond back (right_prev b set a) (left_next b set a)

unfoldable pub side_table : Book → Bool → Table
side_table b back = all (side_step b back) (side_first b back)

-- the rows and the sets of a side, all 0
pub record Clear (R S : List ℕ) : Type 0 where
  pub rows : R ≡ pad pairs []
  pub sets : S ≡ pad most_sets []

-- the number of x among these sets, if it was met before
unfoldable pub number_in : List ℕ → ℕ → Option ℕ
number_in S x = cond (ltb (idx S x) (length S)) (Some (idx S x)) None

-- n is the count and the table stands there; or n is one more than the most, there are more sets than that, and nothing is said of R and S
pub record Numbered (t : Table) (n : ℕ) (R S : List ℕ) : Type 0 where
  pub over : most_sets < n → most_sets < length t.sets
  pub count : n ≤ most_sets → n ≡ length t.sets
  pub rows : n ≤ most_sets → R ≡ pad pairs t.rows
  pub sets : n ≤ most_sets → S ≡ pad most_sets t.sets

-- what numbering answers: the count, where the table stands; none, where there are more sets than the most, and nothing is said of R and S
abbrev pub Counted : Table → Option ℕ → List ℕ → List ℕ → Type 0
Counted t (Some n) R S = (n ≤ most_sets) × Numbered t n R S
Counted t None R S = most_sets < length t.sets

-- Numbered from a on in the rows and from b on in the sets; what lies before and after is as it was
pub record NumberedAt (t : Table) (n a b : ℕ) (R S R' S' : List ℕ) : Type 0 where
  pub numbered : Numbered t n (take pairs (drop a R')) (take most_sets (drop b S'))
  pub rows_before : take a R' ≡ take a R
  pub rows_after : drop (a + pairs) R' ≡ drop (a + pairs) R
  pub sets_before : take b S' ≡ take b S
  pub sets_after : drop (b + most_sets) S' ≡ drop (b + most_sets) S
