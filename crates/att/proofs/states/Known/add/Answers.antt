use Rattle.std.proofs.Common.{sym, arith}
use lib.ListN.{length-take}
use Rattle.att.proofs.Names.{number_is_some, number_is_none, add_in, add_length, add_set}
use Rattle.att.proofs.states.Known.add.Goals as goal

pub returns-then-is_some : goal.returns-then-is_some
returns-then-is_some c = sym (add_in _ _ (number_is_some _ _ _ c.number_of.ensures c.if-is_some.ensures))

pub returns-then-self-eq-STATES : goal.returns-then-self-eq-STATES
returns-then-self-eq-STATES c =
    let h = number_is_none _ _ _ c.number_of.ensures c.if-is_some.ensures in
    omega (arith, add_length _ _ h, length-take c.args.self.now.count c.args.self.now.list)

pub returns : goal.returns
returns c = add_set _ _ _ (omega arith) (number_is_none _ _ _ c.number_of.ensures c.if-is_some.ensures)
