use Rattle.std.proofs.Common.{arith}
use Rattle.att.proofs.Filling.{fresh_some, fresh_length, filled_length, left_first_lem, left_none, left_more}
use Rattle.att.proofs.part.put_states.Goals as goal

pub put_state-requires : goal.put_state-requires
put_state-requires c = omega (arith, fresh_some c.args.n, c.requires)

pub returns-then-n-eq0 : goal.returns-then-n-eq0
returns-then-n-eq0 c = left_none _ _ _ _ c.put_state.ensures c.if-n-eq0.true (omega (arith, fresh_some c.args.n, c.requires))

pub put_state-requires-2 : goal.put_state-requires-2
put_state-requires-2 c = omega (arith, fresh_some c.args.n, c.requires)

pub loop-m-init : goal.loop-m-init
loop-m-init c = left_first_lem _ _ _ c.put_state-2.ensures (omega (arith, fresh_some c.args.n, c.requires))

pub put_state-requires-in-loop-m : goal.put_state-requires-in-loop-m
put_state-requires-in-loop-m c = omega (arith, fresh_length c.args.n c.if-n-eq0.false, c.requires, filled_length _ _ _ c.loop-m.invariant)

pub loop-m-preserved : goal.loop-m-preserved
loop-m-preserved c =
    left_more _ _ _ _ _ c.put_state-in-loop-m.ensures c.loop-m.invariant (omega (arith, c.loop-m.auto.m))
    (omega (arith, fresh_length c.args.n c.if-n-eq0.false, c.requires))
