-- `Writer::longest_output` meets its contract in its two cases, and no product wraps. Assumes nothing.
use Rattle.std.proofs.Common.{arith}
use Rattle.output.proofs.Limits.{bound_fits}
use Rattle.output.proofs.passes.Writer.longest_output.Goals as goal

pub overflow_add-result : goal.overflow_add-result
overflow_add-result c = omega (arith, (bound_fits c.args.self.now.pass c.longest_word-word.result c.longest_word-word.ensures).0)

pub overflow_mul-result : goal.overflow_mul-result
overflow_mul-result c = omega (arith, (bound_fits c.args.self.now.pass c.longest_word-word.result c.longest_word-word.ensures).1)

pub overflow_add-result-then-masks-ne0 : goal.overflow_add-result-then-masks-ne0
overflow_add-result-then-masks-ne0 c = omega (arith, (bound_fits c.args.self.now.pass c.longest_word-word.result c.longest_word-word.ensures).1)

pub overflow_mul-result-2 : goal.overflow_mul-result-2
overflow_mul-result-2 c = rw c.max.ensures (omega (arith, (bound_fits c.args.self.now.pass c.longest_word-word.result c.longest_word-word.ensures).2))
