-- `stepping::close` meets its contract by the side: the left starts are added, or the right accepts and what the rules then give. Assumes nothing.
use Rattle.sets.proofs.Rows.{close_right, close_left}
use Rattle.sets.proofs.stepping.close.Goals as goal

pub returns-in-Left : goal.returns-in-Left
returns-in-Left c = close_left _ _ _ c.in-Left.is

pub returns-in-Right : goal.returns-in-Right
returns-in-Right c = close_right _ _ _ _ c.in-Right.is c.gather.ensures
