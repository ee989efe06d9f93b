use Rattle.std.proofs.Common.{arith, refl}
use Rattle.att.proofs.Parting.{before_short, front_length, front_is, rest_cut}
use Rattle.att.proofs.fields.cut.Goals as goal

pub slice_bounds-result-end : goal.slice_bounds-result-end
slice_bounds-result-end c = front_length 9 _ _ c.span-e.ensures

pub overflow_add-e : goal.overflow_add-e
overflow_add-e c = omega (arith, c.span-e.ensures, before_short 9 c.args.l.now)

pub returns-clause-field : goal.returns-clause-field
returns-clause-field c = front_is 9 _ _ c.span-e.ensures

pub returns-clause-rest : goal.returns-clause-rest
returns-clause-rest c = rw c.unwrap_or.ensures (rest_cut 9 _ _ c.span-e.ensures _ c.get.ensures.lookup.0 _ refl)
