-- `Steps::new` meets its contract: they are steps of the empty set. Assumes nothing.
use Rattle.stretches.proofs.Remembering.{remembers_start}
use Rattle.stretches.proofs.steps.Steps.new.Goals as goal

pub returns : goal.returns
returns c = remembers_start
