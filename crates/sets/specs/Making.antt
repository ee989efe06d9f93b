-- A step of a set while it is made, on one symbol or on all: what the code that reads a book's records needs to know of it.
use Rattle.std.specs.Prelude.{ℕ, ◌≡◌, Bool, true, List}
use Rattle.std.specs.Int.Bits.{bit_or}
use Rattle.book.specs.Reading.{Arc}
use Rattle.sets.specs.Stepping.{step_arcs, SweptAll}
use Rattle.sets.specs.Sides.{source, target}
use Rattle.sets.specs.declared.sides.Side.{Side}

-- which way, of which set, on which symbols, and what is there so far
pub record Making : Type 0 where
  pub side : Side
  pub set : ℕ
  pub on : ℕ → Bool
  pub so_far : ℕ → ℕ

-- the same step, with `more` on each of its symbols
pub record Adds (more : ℕ → ℕ) (m m' : Making) : Type 0 where
  pub side : m'.side ≡ m.side
  pub set : m'.set ≡ m.set
  pub on : m'.on ≡ m.on
  pub each : (a : ℕ) → m.on a ≡ true → m'.so_far a ≡ bit_or (m.so_far a) (more a)

-- with what the records from a state's own on to the end of its rule give
pub record Sweeps (arcs : List Arc) (state next : ℕ) (m m' : Making) : Type 0 where
  pub more : ℕ → ℕ
  pub swept : (a : ℕ) → SweptAll (source m.side) (target m.side) arcs state m.set a (more a) next
  pub added : Adds more m m'

-- nothing is there
abbrev pub Empty : Making → Type 0
Empty m = (a : ℕ) → m.on a ≡ true → m.so_far a ≡ 0

-- it is made: the step over all arcs is there
pub record Made (arcs : List Arc) (m m' : Making) : Type 0 where
  pub each : (a : ℕ) → m.on a ≡ true → m'.so_far a ≡ step_arcs (source m.side) (target m.side) arcs m.set a
