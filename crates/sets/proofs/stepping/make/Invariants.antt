-- `stepping::make` meets its contract: what is there and the step of what is left make the step of the set, by `Picking`; each turn takes the
-- lowest state away, and its rule is read from its record on unless that was done for a lower state. Assumes nothing.
use Rattle.book.specs.Reading.{book_of}
use Rattle.sets.proofs.Making.{Picking}
use Rattle.sets.proofs.stepping.make.Given as goal

abbrev pub invariant-loop-left : goal.invariant-loop-left
invariant-loop-left g l = Picking (book_of l.states.book.now).arcs l.left l.done (g.S.Step.making l.initial.step) (g.S.Step.making l.step)

abbrev pub decreases-loop-left : goal.decreases-loop-left
decreases-loop-left g l = l.left
