-- `stepping::make` meets its contract: what is there and the step of what is left make the step of the set, by `Picking`; each turn takes the
-- lowest state away, and its rule is read from its record on unless that was done for a lower state. Assumes nothing.
use native.Mathlib.Omega.{arith}
use lib.Count.{count_trailing_zeros}
use Rattle.sets.proofs.Sweep.{none_placed}
use Rattle.sets.proofs.Making.{picking_start, picking_end, pick_done, pick_none, pick_swept}
use Rattle.sets.proofs.stepping.make.Goals as goal

pub loop-left-init : goal.loop-left-init
loop-left-init g c = picking_start _ _ _ c.set-left.ensures (omega arith) c.requires

pub loop-left-preserved-then-place-ne0 : goal.loop-left-preserved-then-place-ne0
loop-left-preserved-then-place-ne0 g c = pick_swept _ _ _ _ _ c.loop-left.invariant (omega arith) _ _ c.sweep-done.ensures

pub loop-left-preserved-else-place-ne0 : goal.loop-left-preserved-else-place-ne0
loop-left-preserved-else-place-ne0 g c =
    pick_none _ _ _ _ _ c.loop-left.invariant (omega arith)
    (λ p q a. none_placed p q _ (count_trailing_zeros 64 c.loop-left.left) _ a c.args.states.now.accepted (c.args.states.now.placed _) c.if-place-ne0.false)

pub loop-left-preserved : goal.loop-left-preserved
loop-left-preserved g c = pick_done _ _ _ _ _ c.loop-left.invariant (omega arith) c.if-done-state.false

pub returns : goal.returns
returns g c = picking_end _ _ _ _ _ c.loop-left.invariant (omega arith)
