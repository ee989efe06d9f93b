-- `Rules::hit` meets its contract: the first rule that passes among those from here on is the first of all. Assumes nothing.
use Rattle.book.specs.Reading.{book_of}
use Rattle.stretches.proofs.Meets.{Seeking}
use Rattle.stretches.proofs.walk.Rules.hit.Given as goal

abbrev pub invariant-loop-rule : goal.invariant-loop-rule
invariant-loop-rule l = Seeking (book_of l.self.book.now) l.set l.right l.self.count l.rule
