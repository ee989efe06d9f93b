-- `heat::try_heat` meets its contract: before each lane stands what the lanes before it leave (`Here`). Assumes nothing.
use Rattle.heat.specs.Lanes.{leaving, lane_def}
use Rattle.heat.proofs.Turns.{Here}
use Rattle.heat.proofs.try_heat.Given as goal

abbrev pub invariant-loop-lane : goal.invariant-loop-lane
invariant-loop-lane l =
    Here (lane_def l.book l.tapes l.rows l.sets) l.initial.lanes (leaving 0 l.initial.scratch l.initial.out l.initial.origins) l.lane-index l.lanes
    (leaving l.used l.scratch l.out l.origins)
