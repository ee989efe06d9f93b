-- `Rules::first_set` meets its contract: what the rules so far open is gathered. Assumes nothing.
use Rattle.std.proofs.Common.{◌≡◌}
use Rattle.book.specs.Reading.{book_of}
use Rattle.sets.specs.Focus.{opened_below}
use Rattle.stretches.proofs.walk.Rules.first_set.Given as goal

abbrev pub invariant-loop-rule : goal.invariant-loop-rule
invariant-loop-rule l = l.out ≡ opened_below (book_of l.self.book.now) l.left l.rule
