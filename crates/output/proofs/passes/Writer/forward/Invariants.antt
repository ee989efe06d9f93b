-- `Writer::forward` meets its contract: what stands in front of both outputs, followed by what is still to come, is the whole. Assumes nothing.
use Rattle.book.specs.Reading.{book_of}
use Rattle.stretches.specs.Ready.{Remembers}
use Rattle.output.proofs.Forth.{Forth}
use Rattle.output.proofs.passes.Writer.forward.Given as goal

abbrev pub invariant-loop-i : goal.invariant-loop-i
invariant-loop-i l = record {
  forth : Forth l.self.pass l.initial.to l.to l.spot l.i;
  remembers : Remembers (book_of l.self.pass.walk.outline.states.book.now) l.steps;
}
