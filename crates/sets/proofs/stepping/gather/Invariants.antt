-- `stepping::gather` meets its contract: after i turns what is out is what the first i rules give. Assumes nothing.
use mathlib.Core.Path.{◌≡◌}
use lib.ListN.{get_or}
use Rattle.book.specs.Outline.{right_starts, focus_accepts}
use Rattle.sets.specs.Stepping.{gather}
use Rattle.sets.proofs.stepping.gather.Given as goal

abbrev pub invariant-loop-rule : goal.invariant-loop-rule
invariant-loop-rule l = l.out ≡ gather l.rule l.set (λ r. get_or l.masks (right_starts r) 0) (λ r. get_or l.masks (focus_accepts r) 0)
