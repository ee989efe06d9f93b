use Rattle.att.proofs.Parting.{Digits}
use Rattle.att.proofs.fields.number.Given as goal

abbrev pub invariant-loop-d : goal.invariant-loop-d
invariant-loop-d l = Digits l.f l.v l.d-index
