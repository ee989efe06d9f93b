-- `Writer::longest_word` meets its contract: the longest so far and the rules that are left give the longest. Assumes nothing.
use Rattle.output.proofs.Limits.{Longest}
use Rattle.output.proofs.passes.Writer.longest_word.Given as goal

abbrev pub invariant-loop-rule : goal.invariant-loop-rule
invariant-loop-rule l = Longest l.self.pass.walk.outline.states.book.now l.most l.rule
