-- `numbering::find` meets its contract: the number of the set is the places passed and its number among those that are left; the search
-- stops where that is 0. Assumes nothing.
use native.Mathlib.Omega.{arith}
use Rattle.sets.proofs.Finding.{search_stop, search_on, search_end, found, missed}
use Rattle.sets.proofs.numbering.find.Goals as goal

pub loop-i-preserved : goal.loop-i-preserved
loop-i-preserved c = omega (arith, search_on c.args.sets.now c.args.set c.loop-i.i (omega arith) c.if-sets-i.false)

pub returns-then-i-sets : goal.returns-then-i-sets
returns-then-i-sets c = missed _ _ (omega (arith, search_end c.args.sets.now c.args.set c.loop-i.i (omega arith)))

pub returns-then-sets-i : goal.returns-then-sets-i
returns-then-sets-i c = found _ _ _ (omega arith) (omega (arith, search_stop c.args.sets.now c.args.set c.loop-i.i (omega arith) c.if-sets-i.true))
