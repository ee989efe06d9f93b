-- `Records` yields each record up to the end record, and no record is of an unknown kind. Assumes nothing.
use native.Mathlib.Omega.{arith}
use Rattle.book.proofs.Laws.{known_kind}
use Rattle.book.proofs.record.RecordsIterator.next.Goals as goal
use Rattle.book.proofs.record.RecordsIterator.next.Goals.{in-0-1, in_default+else-kind-lt4}

pub returns-in-0-clause-steps : goal.returns-in-0-clause-steps
returns-in-0-clause-steps c =
    let k = known_kind _ c.in_ok-record.record.known in
    elim c.in-0-1.branch [
      | in-0-1 w ↦ absurd (omega (arith, k, c.kind-kind.ensures))
      | in_default+else-kind-lt4 w ↦ absurd (omega (arith, k, c.kind-kind.ensures))
    ]
