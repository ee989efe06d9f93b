use Rattle.std.proofs.Common.{arith}
use Rattle.att.specs.Text.{add}
use Rattle.att.specs.Survey.{states}
use Rattle.att.proofs.Names.{add_longer}
use Rattle.att.proofs.states.Known.add_line.Goals as goal

pub returns-else-add : goal.returns-else-add
returns-else-add c = rw (c.if-add.false, c.in-Arc.is) (omega (arith, c.if-add.ensures, add_longer (add (states c.args.self.now) c.in-Arc.from) c.in-Arc.to))
