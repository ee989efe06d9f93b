-- How far the second pass has come is said in Putting.antt; each line leaves less of the text.
use Rattle.std.proofs.Common.{◌≡◌, ◌-◌, length}
use Rattle.att.proofs.Putting.{Mid}
use Rattle.att.proofs.part.Plan.put.Given as goal

abbrev pub invariant-loop-line : goal.invariant-loop-line
invariant-loop-line l = record { same : l.lines.text.now ≡ l.self.text.now; mid : Mid l.out l.initial.out l.self.text.now l.self.part l.self.first l.lines.at l.used }

abbrev pub decreases-loop-line : goal.decreases-loop-line
decreases-loop-line l = length l.self.text.now - l.lines.at
