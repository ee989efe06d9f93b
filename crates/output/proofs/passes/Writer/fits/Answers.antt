-- `Writer::fits` meets its contract: the longest possible output is at least as long as the output, and a measured one is the output's.
-- Assumes nothing.
use Rattle.std.proofs.Common.{arith}
use Rattle.output.specs.Passes.{by, along}
use Rattle.output.proofs.Outcomes.{fits_yes, fits_no}
use Rattle.output.proofs.Limits.{bound_holds}
use Rattle.output.proofs.passes.Writer.fits.Goals as goal

pub returns-then-longest_output-room : goal.returns-then-longest_output-room
returns-then-longest_output-room c =
    let n = bound_holds c.args.self.now.pass c.longest_output.result c.longest_output.ensures in
    fits_yes (by c.args.self.now.pass) (along c.args.self.now.pass) c.args.room (omega (arith, c.if-longest_output-room.true, n))

pub returns-then-length-room : goal.returns-then-length-room
returns-then-length-room c = fits_yes (by c.args.self.now.pass) (along c.args.self.now.pass) c.args.room (omega (arith, c.if-length-room.true, c.measure-length.ensures))

pub returns : goal.returns
returns c =
    rw c.at.ensures (fits_no (by c.args.self.now.pass) (along c.args.self.now.pass) c.args.room _ (omega (arith, c.measure-length.ensures)) (omega (arith, c.if-length-room.false)))
