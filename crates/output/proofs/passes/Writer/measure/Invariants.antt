-- `Writer::measure` meets its contract: the length so far and what is still to come make the whole, and what stands for a position has room where
-- the longest word and a symbol have. Assumes nothing.
use Rattle.std.proofs.Common.{◌≡◌, ◌+◌, length}
use Rattle.book.specs.Format.{longest_word}
use Rattle.book.specs.Reading.{book_of}
use Rattle.stretches.specs.Ready.{Remembers}
use Rattle.output.proofs.Measured.{Counted}
use Rattle.output.proofs.passes.Writer.measure.Given as goal

abbrev pub invariant-loop-i : goal.invariant-loop-i
invariant-loop-i l = record {
  counted : Counted l.self.pass l.length l.spot l.i;
  remembers : Remembers (book_of l.self.pass.walk.outline.states.book.now) l.steps;
  outs : length l.to.out.now ≡ longest_word + 1;
  orgs : length l.to.origins.now ≡ longest_word + 1;
}
