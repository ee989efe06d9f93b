-- `Writer::forward` meets its contract: what stands in front of both outputs, followed by what is still to come, is the whole. Assumes nothing.
use Rattle.std.proofs.Common.{refl, arith, rules}
use Rattle.output.proofs.Measured.{counted_standing, counted_past}
use Rattle.output.proofs.Forth.{forth_start, forth_fits, forth_turn, forth_last, forth_sized, forth_outs, forth_orgs, forth_same}
use Rattle.output.proofs.passes.Writer.forward.Goals as goal

pub loop-i-init : goal.loop-i-init
loop-i-init c = record { forth = forth_start c.args.self.now.pass _ refl; remembers = c.new-steps.ensures _ }

pub write_position-spot-requires-clause-standing : goal.write_position-spot-requires-clause-standing
write_position-spot-requires-clause-standing c = counted_standing c.args.self.now.pass c.loop-i.to.at c.loop-i.spot c.loop-i.i c.loop-i.invariant.forth.counted

pub write_position-spot-requires-clause-fits : goal.write_position-spot-requires-clause-fits
write_position-spot-requires-clause-fits c =
    forth_fits c.args.self.now.pass _ c.loop-i.to c.loop-i.spot c.loop-i.i c.loop-i.invariant.forth c.requires c.loop-i-test.true

pub loop-i-preserved : goal.loop-i-preserved
loop-i-preserved c = record {
  forth = forth_turn c.args.self.now.pass _ c.loop-i.to c.loop-i.spot c.loop-i.i c.loop-i.invariant.forth c.requires c.loop-i-test.true
      c.write_position-spot.new.to c.write_position-spot.result c.write_position-spot.ensures.marks_put c.write_position-spot.ensures.left_next
      c.write_position-spot.ensures.moved;
  remembers = c.write_position-spot.ensures.remembers_2;
}

pub write_taken-last-requires-clause-standing : goal.write_taken-last-requires-clause-standing
write_taken-last-requires-clause-standing c =
    counted_standing c.args.self.now.pass c.loop-i.to.at c.loop-i.spot _
    (counted_past c.args.self.now.pass c.loop-i.to.at c.loop-i.spot c.loop-i.i c.loop-i.invariant.forth.counted (omega arith))

pub write_taken-last-requires-clause-fits : goal.write_taken-last-requires-clause-fits
write_taken-last-requires-clause-fits c =
    forth_last c.args.self.now.pass _ c.loop-i.to c.loop-i.spot c.loop-i.i c.loop-i.invariant.forth c.requires (omega arith)

pub returns-clause-sized : goal.returns-clause-sized
returns-clause-sized c =
    let sized = forth_sized c.args.self.now.pass _ c.loop-i.to c.loop-i.spot c.loop-i.i c.loop-i.invariant.forth c.requires (omega arith)
    c.write_taken-last.new.to c.write_taken-last.ensures.marks_put c.write_taken-last.result c.write_taken-last.ensures.moved in
    record { lens = omega (arith, sized.lens); many = omega (arith, sized.many) }

pub returns-clause-out_after : goal.returns-clause-out_after
returns-clause-out_after c =
    let whole = forth_outs c.args.self.now.pass _ c.loop-i.to c.loop-i.spot c.loop-i.i c.loop-i.invariant.forth c.requires (omega arith)
    c.write_taken-last.new.to c.write_taken-last.ensures.marks_put in
    let same = (forth_same c.args.self.now.pass _ c.loop-i.to c.loop-i.spot c.loop-i.i c.loop-i.invariant.forth c.requires (omega arith)
    c.write_taken-last.new.to c.write_taken-last.ensures.marks_put).0 in
    search rules

pub returns-clause-origins_after : goal.returns-clause-origins_after
returns-clause-origins_after c =
    let whole = forth_orgs c.args.self.now.pass _ c.loop-i.to c.loop-i.spot c.loop-i.i c.loop-i.invariant.forth c.requires (omega arith)
    c.write_taken-last.new.to c.write_taken-last.ensures.marks_put in
    let same = (forth_same c.args.self.now.pass _ c.loop-i.to c.loop-i.spot c.loop-i.i c.loop-i.invariant.forth c.requires (omega arith)
    c.write_taken-last.new.to c.write_taken-last.ensures.marks_put).1 in
    search rules
