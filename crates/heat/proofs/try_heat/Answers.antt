-- `heat::try_heat` meets its contract: `begin` starts the lanes, or refuses; each lane's turn is `here_next`, and after the last one the whole call is
-- what the definition says (`heat_ran`). Assumes nothing.
use Rattle.std.proofs.Common.{◌≡◌, true, refl, arith, rules}
use Rattle.std.specs.Result.{is_ok}
use Rattle.heat.proofs.Begins.{heat_ran, started}
use Rattle.heat.proofs.Places.{lane_roomy}
use Rattle.heat.proofs.Turns.{here_start, here_next, here_end}
use Rattle.heat.proofs.try_heat.Goals as goal

pub loop-lane-init : goal.loop-lane-init
loop-lane-init c = here_start _ (lane_roomy _ _ _ _) _ _ refl

pub run_lane-used-requires-clause-room : goal.run_lane-used-requires-clause-room
run_lane-used-requires-clause-room c = let x = c.loop-lane.invariant.roomy in (x.in_out, x.in_origins)

pub loop-lane-preserved : goal.loop-lane-preserved
loop-lane-preserved c =
    here_next _ (lane_roomy _ _ _ _) _ _ _ _ _ c.loop-lane.invariant (omega arith) _ _ c.run_lane-used.ensures

pub returns : goal.returns
returns c =
    let passed : is_ok c.begin.result ≡ true = search rules in
    heat_ran _ _ _ _ _ _ _ _ _ (rw (started _ passed) at c.begin.ensures.begun) refl _
    (here_end _ (lane_roomy _ _ _ _) _ _ _ _ _ c.loop-lane.invariant (omega arith))
