-- `heat::run_lane` meets its contract: 17, or the lane's REWRITE into what is left of the outputs. Assumes nothing.
use Rattle.std.proofs.Common.{◌≡◌, ◌+◌, ◌≤◌, length, ap, arith}
use Rattle.output.specs.Results.{rewritten}
use Rattle.heat.specs.declared.Lane.{Lane}
use Rattle.heat.specs.Lanes.{answered, leaving}
use Rattle.heat.proofs.Room.{lane_outside, lane_inside, used_fits}
use Rattle.heat.proofs.run_lane.Goals as goal

pub returns-in_default : goal.returns-in_default
returns-in_default c =
    let e : c.answer.new.self ≡ answered c.args.lane.now 17 0 0 0 = rw c.at.ensures at c.answer.ensures in
    lane_outside c.args.book.now c.args.tapes.now c.args.rows.now c.args.sets.now c.args.lane.now
    (leaving c.args.from c.args.scratch.now c.args.out.now c.args.origins.now) (omega (arith, c.in_default.ensures)) _ e

pub overflow_add-result : goal.overflow_add-result
overflow_add-result c =
    let out : c.answer-2.new.self.out ≡ (rewritten c.rewrite_built-done.result).length = ap (λ (l : Lane). l.out) c.answer-2.ensures in
    let h : c.args.from + (rewritten c.rewrite_built-done.result).length ≤ length c.args.out.now =
    used_fits c.args.book.now c.args.tapes.now c.args.rows.now c.args.sets.now c.args.lane.now
    (leaving c.args.from c.args.scratch.now c.args.out.now c.args.origins.now) _ c.in-Some.ensures.1 (rewritten c.rewrite_built-done.result) _ _ _ c.rewrite_built-done.ensures c.requires.room.0
    in
    omega (arith, c.well_formed, h, out)

pub returns : goal.returns
returns c =
    lane_inside c.args.book.now c.args.tapes.now c.args.rows.now c.args.sets.now c.args.lane.now
    (leaving c.args.from c.args.scratch.now c.args.out.now c.args.origins.now) _ c.in-Some.ensures.1 (rewritten c.rewrite_built-done.result) _ _ _ c.rewrite_built-done.ensures
    c.in-Some.ensures.0 _ c.answer-2.ensures
