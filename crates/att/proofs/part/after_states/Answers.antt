use native.Mathlib.Omega.{arith}
use Rattle.att.specs.Survey.{after_states}
use Rattle.att.proofs.Filling.{fresh_most}
use Rattle.att.proofs.part.after_states.Goals as goal

pub overflow_mul-result : goal.overflow_mul-result
overflow_mul-result c = omega (arith, fresh_most 64 _ _ c.states_of.ensures (omega arith) (omega arith))

pub returns : goal.returns
unfolding after_states
returns c = rw c.states_of.ensures
