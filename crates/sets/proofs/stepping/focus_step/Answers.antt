-- `stepping::focus_step` meets its contract: the step that is made on its symbol is the step of the set. Assumes nothing.
use mathlib.Core.Path.{refl, ◌∙◌}
use borrow.Author.Tests.{eq-eqb}
use Rattle.book.proofs.Accepted.{is_accepted}
use Rattle.book.proofs.Sound.{accepted_sound}
use Rattle.sets.proofs.Closing.{step_is}
use Rattle.sets.proofs.stepping.focus_step.Goals as goal

pub returns : goal.returns
returns c =
    c.make.ensures.each c.args.symbol (eq-eqb c.args.symbol c.args.symbol refl)
    ∙ step_is _ _ _ (accepted_sound _ _ (is_accepted _ c.args.states.now.accepted))
