-- `stepping::focus_next` meets its contract: the step forwards, cut to the right set, is the next focus set. Assumes nothing.
use Prim.Native.Nat.{ℕ}
use mathlib.Core.Path.{ap, ◌∙◌}
use lib.Bits.{bit_and}
use Rattle.book.proofs.Accepted.{is_accepted}
use Rattle.book.proofs.Sound.{accepted_sound}
use Rattle.sets.proofs.Meaning.{step_pruned}
use Rattle.sets.proofs.stepping.focus_next.Goals as goal

pub returns : goal.returns
returns c = ap (λ (x : ℕ). bit_and x c.args.right) c.focus_step.ensures ∙ step_pruned _ (accepted_sound _ _ (is_accepted _ c.args.states.now.accepted)) _ _ _
