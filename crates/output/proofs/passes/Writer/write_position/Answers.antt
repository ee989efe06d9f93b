-- `Writer::write_position` meets its contract: inside a stretch nothing; else the word, and then the symbol where the stretch does not cover it.
-- Assumes nothing.
use Rattle.std.proofs.Common.{arith}
use Rattle.output.proofs.Positions.{put_in, moved_in, bare_fits, bare_put, bare_moved, fit_word, put_covered, kept_fits, put_kept, moved_free}
use Rattle.output.proofs.passes.Writer.write_position.Goals as goal

pub returns-then-i-spot-clause-marks_put : goal.returns-then-i-spot-clause-marks_put
returns-then-i-spot-clause-marks_put c = put_in c.args.self.now.pass c.args.i c.args.spot (omega arith) c.args.to.now

pub returns-then-i-spot-clause-moved : goal.returns-then-i-spot-clause-moved
returns-then-i-spot-clause-moved c = moved_in c.args.self.now.pass c.args.i c.args.spot (omega arith) _ (omega arith) (omega arith)

pub put-requires : goal.put-requires
put-requires c =
    let f = bare_fits c.args.self.now.pass c.args.i c.args.spot (omega arith) c.requires.i_in_bounds _ c.right_set.ensures c.if-right_set-walk-eq0.true
    c.args.to.now c.requires.fits in
    (omega (arith, c.args.self.now.pass.ready.tape_fits), f.0, f.1)

pub returns-then-right_set-walk-eq0-clause-marks_put : goal.returns-then-right_set-walk-eq0-clause-marks_put
returns-then-right_set-walk-eq0-clause-marks_put c =
    bare_put c.args.self.now.pass c.args.i c.args.spot (omega arith) c.requires.i_in_bounds _ c.right_set.ensures c.if-right_set-walk-eq0.true
    c.args.to.now c.requires.fits c.put.new.self c.put.ensures

pub returns-then-right_set-walk-eq0-clause-moved : goal.returns-then-right_set-walk-eq0-clause-moved
returns-then-right_set-walk-eq0-clause-moved c =
    bare_moved c.args.self.now.pass c.args.i c.args.spot (omega arith) c.requires.i_in_bounds _ c.right_set.ensures c.if-right_set-walk-eq0.true
    _ (omega arith) (omega arith)

pub write_taken-next-requires-clause-fits : goal.write_taken-next-requires-clause-fits
write_taken-next-requires-clause-fits c = fit_word c.args.self.now.pass c.args.i c.args.spot (omega arith) c.args.to.now c.requires.fits

pub returns-then-i-next-clause-marks_put : goal.returns-then-i-next-clause-marks_put
returns-then-i-next-clause-marks_put c =
    put_covered c.args.self.now.pass c.args.i c.args.spot (omega arith) c.args.to.now c.requires.fits c.write_taken-next.new.to
    c.write_taken-next.ensures.marks_put c.write_taken-next.result c.write_taken-next.ensures.moved (omega arith)

pub returns-then-i-next-clause-moved : goal.returns-then-i-next-clause-moved
returns-then-i-next-clause-moved c =
    moved_free c.args.self.now.pass c.args.i c.args.spot (omega arith) c.write_taken-next.result _ c.write_taken-next.ensures.moved (omega arith) (omega arith)

pub put-requires-2 : goal.put-requires-2
put-requires-2 c =
    let f = kept_fits c.args.self.now.pass c.args.i c.args.spot (omega arith) c.args.to.now c.requires.fits c.write_taken-next.new.to
    c.write_taken-next.ensures.marks_put c.write_taken-next.result c.write_taken-next.ensures.moved c.requires.i_in_bounds (omega arith) in
    (omega (arith, c.args.self.now.pass.ready.tape_fits), f.0, f.1)

pub returns-clause-marks_put : goal.returns-clause-marks_put
returns-clause-marks_put c =
    put_kept c.args.self.now.pass c.args.i c.args.spot (omega arith) c.args.to.now c.requires.fits c.write_taken-next.new.to
    c.write_taken-next.ensures.marks_put c.write_taken-next.result c.write_taken-next.ensures.moved c.requires.i_in_bounds (omega arith)
    c.put-2.new.self c.put-2.ensures

pub returns-clause-moved : goal.returns-clause-moved
returns-clause-moved c =
    moved_free c.args.self.now.pass c.args.i c.args.spot (omega arith) c.write_taken-next.result _ c.write_taken-next.ensures.moved (omega arith) (omega arith)
