use Rattle.att.specs.Text.{state_records}
use Rattle.att.specs.Survey.{fresh, Filled}
use Rattle.att.proofs.part.put_states.Given as goal

abbrev pub invariant-loop-m : goal.invariant-loop-m
invariant-loop-m l = Filled l.out (state_records l.part (fresh l.m)) l.fn.out
