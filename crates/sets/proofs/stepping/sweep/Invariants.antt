-- `stepping::sweep` meets its contract: the loop goes over the records after the state's own to the end of its rule, by `Reading`; an arc's
-- record adds its hop on each symbol, a state's moves the number on, the next rule or the book's end ends the rule, and there is no other record.
-- Assumes nothing.
use Prim.Native.Nat.{◌-◌}
use lib.ListN.{length}
use Rattle.book.specs.Reading.{book_of}
use Rattle.sets.proofs.Making.{Reading}
use Rattle.sets.proofs.stepping.sweep.Given as goal

abbrev pub invariant-loop-step : goal.invariant-loop-step
invariant-loop-step g l = Reading l.book (book_of l.book) l.state l.at l.next (g.S.Step.making l.initial.step) (g.S.Step.making l.step)

abbrev pub decreases-loop-step : goal.decreases-loop-step
decreases-loop-step g l = length l.book - l.at
