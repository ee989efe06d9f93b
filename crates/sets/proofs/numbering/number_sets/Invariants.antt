-- `numbering::number_sets` meets its contract: the outer loop stands before row k and the inner one before symbol a of it; rows and sets
-- hold the table after that many pairs, and the number of the last step's set is at hand. A number that is written is below the most, by the
-- two ways to come to it. Assumes nothing.
use Prim.Native.Nat.{◌-◌}
use Rattle.book.specs.Reading.{book_of}
use Rattle.sets.specs.Stepping.{close_by}
use Rattle.sets.specs.Numbering.{most_sets}
use Rattle.sets.specs.Sides.{back, side_first, side_step}
use Rattle.sets.proofs.At.{Before, In}
use Rattle.sets.proofs.numbering.number_sets.Given as goal

abbrev pub invariant-loop-symbol : goal.invariant-loop-symbol
invariant-loop-symbol l =
    In (side_step (book_of l.outline.states.book.now) (back l.side)) (close_by l.outline.masks.now (back l.side)) (side_first (book_of l.outline.states.book.now) (back l.side))
    l.k l.symbol l.row.steps l.rows l.sets l.count l.last.step l.last.number

abbrev pub invariant-all : goal.invariant-all
invariant-all l =
    Before (side_step (book_of l.outline.states.book.now) (back l.side)) (close_by l.outline.masks.now (back l.side)) (side_first (book_of l.outline.states.book.now) (back l.side))
    l.k l.rows l.sets l.count l.last.step l.last.number

abbrev pub decreases-all : goal.decreases-all
decreases-all l = most_sets - l.k
