-- `Starts::of` meets its contract: the first start is the tape's front. Assumes nothing.
use Rattle.std.proofs.Common.{arith}
use Rattle.stretches.proofs.Lefts.{left_start}
use Rattle.lines.proofs.ends.Starts.of.Goals as goal

pub invariant_of-result : goal.invariant_of-result
invariant_of-result c =
    let p = c.args.pass.now in
    let l = left_start p.walk.outline.states.book.now p.walk.tape.now p.rows.now p.walk.sets.now p.walk.scratch.now p.ready in
    record { reached = omega arith; numbered = λ h. record { below = l.below; is = l.is } }
