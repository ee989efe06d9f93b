-- `Writer::write_taken` meets its contract: where nothing is taken nothing is written, else the word of the rule. Assumes nothing.
use Rattle.std.proofs.Common.{arith}
use Rattle.output.proofs.Positions.{none_put, none_moved, some_known, some_fits, some_word, some_moved}
use Rattle.output.proofs.passes.Writer.write_taken.Goals as goal

pub returns-in_default-clause-marks_put : goal.returns-in_default-clause-marks_put
returns-in_default-clause-marks_put c = none_put c.args.self.now.pass c.args.i _ c.taken_at.ensures.taken_here c.in_default.not-Some c.args.to.now

pub returns-in_default-clause-moved : goal.returns-in_default-clause-moved
returns-in_default-clause-moved c =
    none_moved c.args.self.now.pass c.args.i _ c.taken_at.ensures.taken_here c.in_default.not-Some c.args.spot _ (omega arith) (omega arith)

pub word-requires : goal.word-requires
word-requires c = some_known c.args.self.now.pass c.args.i _ c.taken_at.ensures.taken_here c.taken_at.ensures.some_rule _ c.in-Some.is

pub put_word-requires-clause-in_bounds : goal.put_word-requires-clause-in_bounds
put_word-requires-clause-in_bounds c =
    let cut = some_fits c.args.self.now.pass c.args.i _ c.taken_at.ensures.taken_here c.taken_at.ensures.some_rule _ c.in-Some.is c.requires.i_in_bounds in
    (cut.0, omega (arith, cut.1, c.args.self.now.pass.ready.tape_fits))

pub put_word-requires-clause-fits : goal.put_word-requires-clause-fits
put_word-requires-clause-fits c =
    rw c.word.ensures (rw (some_word c.args.self.now.pass c.args.i _ c.taken_at.ensures.taken_here c.taken_at.ensures.some_rule _ c.in-Some.is) at c.requires.fits)

pub returns-clause-marks_put : goal.returns-clause-marks_put
returns-clause-marks_put c =
    rw (some_word c.args.self.now.pass c.args.i _ c.taken_at.ensures.taken_here c.taken_at.ensures.some_rule _ c.in-Some.is) (rw c.word.ensures at c.put_word.ensures)

pub returns-clause-moved : goal.returns-clause-moved
returns-clause-moved c =
    some_moved c.args.self.now.pass c.args.i _ c.taken_at.ensures.taken_here c.taken_at.ensures.some_rule _ c.in-Some.is c.args.spot _ (omega arith) (omega arith)
