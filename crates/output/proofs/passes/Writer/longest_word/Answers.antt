-- `Writer::longest_word` meets its contract: the longest so far and the rules that are left give the longest. Assumes nothing.
use Rattle.std.proofs.Common.{ap, length, arith}
use Rattle.output.proofs.Limits.{longest_turn, longest_end}
use Rattle.output.proofs.passes.Writer.longest_word.Goals as goal

pub loop-rule-preserved : goal.loop-rule-preserved
loop-rule-preserved c =
    let t = longest_turn _ c.loop-rule.most c.loop-rule.rule c.loop-rule.invariant
    (omega (arith, c.loop-rule-test.true, c.args.self.now.pass.walk.outlined.tests.many)) _ (ap length c.word.ensures) in
    rw c.max-most.ensures t

pub returns : goal.returns
returns c =
    longest_end _ c.loop-rule.most c.loop-rule.rule c.loop-rule.invariant
    (omega (arith, c.loop-rule-test.false, c.args.self.now.pass.walk.outlined.tests.many))
