-- How far the first pass has come is said in Surveying.antt; each line leaves less of the text.
use Rattle.std.proofs.Common.{◌≡◌, ◌-◌, length}
use Rattle.att.proofs.Surveying.{Pass}
use Rattle.att.proofs.survey.Survey.of.Given as goal

abbrev pub invariant-loop-line : goal.invariant-loop-line
invariant-loop-line l = record { same : l.lines.text.now ≡ l.text; pass : Pass l.text l.lines.at l.arcs l.known }

abbrev pub decreases-loop-line : goal.decreases-loop-line
decreases-loop-line l = length l.text - l.lines.at
