-- `Writer::measure` meets its contract: the length so far and what is still to come make the whole, and what stands for a position has room where
-- the longest word and a symbol have. Assumes nothing.
use Rattle.std.proofs.Common.{◌+◌, refl, length, ◌∙◌, arith}
use Rattle.stretches.specs.Position.{marks_at}
use Rattle.output.specs.Passes.{by, along, MarksFit}
use Rattle.output.proofs.Marks.{out_length, org_length}
use Rattle.output.proofs.Limits.{position_fits, last_fits, output_fits}
use Rattle.output.proofs.Measured.{counted_start, counted_standing, counted_fits, counted_turn, counted_past, counted_end}
use Rattle.output.proofs.passes.Writer.measure.Goals as goal

pub loop-i-init : goal.loop-i-init
loop-i-init c = record { counted = counted_start c.args.self.now.pass; remembers = c.new-steps.ensures _; outs = refl; orgs = refl }

pub write_position-spot-requires-clause-standing : goal.write_position-spot-requires-clause-standing
write_position-spot-requires-clause-standing c = counted_standing c.args.self.now.pass c.loop-i.length c.loop-i.spot c.loop-i.i c.loop-i.invariant.counted

pub write_position-spot-requires-clause-fits : goal.write_position-spot-requires-clause-fits
write_position-spot-requires-clause-fits c =
    let fit = position_fits c.args.self.now.pass c.loop-i.i c.loop-i.spot.end in
    record { outs = omega (arith, fit, c.loop-i.invariant.outs); orgs = omega (arith, fit, c.loop-i.invariant.orgs) }

pub overflow_add-length : goal.overflow_add-length
overflow_add-length c =
    omega (
      arith,
      counted_fits c.args.self.now.pass c.loop-i.length c.loop-i.spot c.loop-i.i c.loop-i.invariant.counted c.loop-i-test.true
          (c.loop-i.length + c.write_position-spot.new.to.at) (omega (arith, c.write_position-spot.ensures.marks_put.next)),
    )

pub loop-i-preserved : goal.loop-i-preserved
loop-i-preserved c =
    let fit = position_fits c.args.self.now.pass c.loop-i.i c.loop-i.spot.end in
    let room : MarksFit (marks_at (by c.args.self.now.pass) (along c.args.self.now.pass) c.loop-i.i c.loop-i.spot.end) (record c.loop-i.to { at = 0 }) = record { outs = omega (arith, fit, c.loop-i.invariant.outs); orgs = omega (arith, fit, c.loop-i.invariant.orgs) } in
    record {
      counted = counted_turn c.args.self.now.pass c.loop-i.length c.loop-i.spot c.loop-i.i c.loop-i.invariant.counted c.loop-i-test.true
          (c.loop-i.length + c.write_position-spot.new.to.at) (omega (arith, c.write_position-spot.ensures.marks_put.next)) c.write_position-spot.result c.write_position-spot.ensures.left_next c.write_position-spot.ensures.moved;
      remembers = c.write_position-spot.ensures.remembers_2;
      outs = out_length _ _ _ room c.write_position-spot.ensures.marks_put ∙ c.loop-i.invariant.outs;
      orgs = org_length _ _ _ room c.write_position-spot.ensures.marks_put ∙ c.loop-i.invariant.orgs;
    }

pub write_taken-requires-clause-standing : goal.write_taken-requires-clause-standing
write_taken-requires-clause-standing c =
    counted_standing c.args.self.now.pass c.loop-i.length c.loop-i.spot _
    (counted_past c.args.self.now.pass c.loop-i.length c.loop-i.spot c.loop-i.i c.loop-i.invariant.counted (omega arith))

pub write_taken-requires-clause-fits : goal.write_taken-requires-clause-fits
write_taken-requires-clause-fits c =
    let fit = last_fits c.args.self.now.pass (length (along c.args.self.now.pass)) in
    record { outs = omega (arith, fit, c.loop-i.invariant.outs); orgs = omega (arith, fit, c.loop-i.invariant.orgs) }

pub overflow_add-result : goal.overflow_add-result
overflow_add-result c =
    let whole = counted_end c.args.self.now.pass c.loop-i.length c.loop-i.spot c.loop-i.i c.loop-i.invariant.counted (omega arith) c.write_taken.new.to.at
    (omega (arith, c.write_taken.ensures.marks_put.next)) in
    omega (arith, whole, output_fits c.args.self.now.pass)

pub returns : goal.returns
returns c =
    counted_end c.args.self.now.pass c.loop-i.length c.loop-i.spot c.loop-i.i c.loop-i.invariant.counted (omega arith) c.write_taken.new.to.at
    (omega (arith, c.write_taken.ensures.marks_put.next))
