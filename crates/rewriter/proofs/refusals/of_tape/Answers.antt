-- `rewriter::refusals::of_tape` meets its contract: each return is a row of `tape_refusal`. Assumes nothing.
use Rattle.std.proofs.Common.{ap, ◌∙◌, arith}
use Rattle.rewriter.proofs.Early.{tape_long, tape_bad, tape_good}
use Rattle.rewriter.specs.Replies.{refusal}
use Rattle.rewriter.proofs.refusals.of_tape.Goals as goal

pub returns-then-tape-gt-LONGEST_TAPE : goal.returns-then-tape-gt-LONGEST_TAPE
returns-then-tape-gt-LONGEST_TAPE c = rw c.at.ensures (tape_long c.args.tape.now c.if-tape-gt-LONGEST_TAPE.true)

pub returns-in-Some : goal.returns-in-Some
returns-in-Some c =
    let e = c.in-Some.ensures in
    rw c.at-in-Some.ensures (ap (refusal 10) e.0 ∙ tape_bad c.args.tape.now c.if-tape-gt-LONGEST_TAPE.false (omega arith))

pub returns-in-None : goal.returns-in-None
returns-in-None c = tape_good c.args.tape.now c.if-tape-gt-LONGEST_TAPE.false (omega (arith, c.in-None.ensures))
