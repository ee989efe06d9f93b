-- `rewriter::ready::backward` meets its contract: from i on the numbers stand (`Filled`). Assumes nothing.
use Rattle.rewriter.proofs.Backwards.{Filled}
use Rattle.rewriter.proofs.ready.backward.Given as goal

abbrev pub invariant-loop-i : goal.invariant-loop-i
invariant-loop-i l = Filled l.rows l.tape l.initial.scratch l.scratch l.i l.number
