-- `start_count` meets its contract: n counts the ends before those that are left. Assumes nothing.
use Rattle.lines.proofs.Tallies.{Counting}
use Rattle.lines.proofs.start_count.Given as goal

abbrev pub invariant-loop-end : goal.invariant-loop-end
invariant-loop-end l = Counting l.start l.end-iterator l.n
