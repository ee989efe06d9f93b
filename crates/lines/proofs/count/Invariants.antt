-- `count` meets its contract: n counts the starts before those that are left. Assumes nothing.
use Rattle.lines.proofs.Tallies.{Totalled}
use Rattle.lines.proofs.count.Given as goal

abbrev pub invariant-loop-start : goal.invariant-loop-start
invariant-loop-start l = Totalled l.fn.pass l.start-iterator l.n
