use Rattle.std.proofs.Common.{arith}
use Rattle.att.proofs.Planning.{plan_clear}
use Rattle.att.proofs.part.Plan.put_line.Goals as goal

pub overflow_cast-first : goal.overflow_cast-first
overflow_cast-first c =
    let k = plan_clear c.args.self.now c.args.self.now.bytes (omega arith) in
    let l = rw c.in-Arc.is at c.requires.listed in
    omega (arith, l.0)

pub overflow_cast-first-in-Arc : goal.overflow_cast-first-in-Arc
overflow_cast-first-in-Arc c =
    let k = plan_clear c.args.self.now c.args.self.now.bytes (omega arith) in
    let l = rw c.in-Arc.is at c.requires.listed in
    omega (arith, l.1)
