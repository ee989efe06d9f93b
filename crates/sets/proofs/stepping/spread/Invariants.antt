-- `stepping::spread` meets its contract: what is done and what is left of the symbols make the whole. Assumes nothing.
use Rattle.sets.proofs.Rows.{Spreading}
use Rattle.sets.proofs.stepping.spread.Given as goal

abbrev pub invariant-loop-symbol : goal.invariant-loop-symbol
invariant-loop-symbol l = Spreading l.low l.high l.bit l.initial.steps l.steps l.symbol
