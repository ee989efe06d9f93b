-- `lines_at` meets its contract: the lines of the ends before those that are left are written. Assumes nothing.
use Rattle.std.proofs.Common.{◌≡◌}
use Rattle.lines.proofs.Written.{Listed}
use Rattle.lines.proofs.writing.lines_at.Given as goal

abbrev pub invariant-loop-end : goal.invariant-loop-end
invariant-loop-end l =
    Listed l.start l.end-iterator l.d l.initial.to.lines.now l.to.lines.now l.initial.to.at l.to.at × (l.to.lines.ghost_name ≡ l.initial.to.lines.ghost_name)
