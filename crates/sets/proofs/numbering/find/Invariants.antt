-- `numbering::find` meets its contract: the number of the set is the places passed and its number among those that are left; the search
-- stops where that is 0. Assumes nothing.
use Prim.Native.Nat.{◌≤◌, ◌-◌, ◌+◌}
use mathlib.Core.Path.{◌≡◌}
use lib.ListN.{length, drop}
use Rattle.sets.specs.Numbering.{idx}
use Rattle.sets.proofs.numbering.find.Given as goal

abbrev pub invariant-loop-i : goal.invariant-loop-i
invariant-loop-i l = (l.i ≤ length l.sets) × (idx l.sets l.set ≡ l.i + idx (drop l.i l.sets) l.set)

abbrev pub decreases-loop-i : goal.decreases-loop-i
decreases-loop-i l = length l.sets - l.i
