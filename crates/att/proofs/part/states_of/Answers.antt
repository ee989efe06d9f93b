use Rattle.att.proofs.Filling.{fresh_count}
use Rattle.att.proofs.part.states_of.Goals as goal

pub returns : goal.returns
returns c = fresh_count _ _ c.max.ensures
