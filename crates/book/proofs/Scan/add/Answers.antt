-- `Scan::add` meets its contract: each arm stores what `record_more` says of its kind; the sums and the store have room by the tests that
-- the record passed. Assumes nothing.
use mathlib.Core.Path.{◌∙◌, sym}
use native.Mathlib.Omega.{arith}
use Rattle.book.specs.Scanning.{record_more}
use Rattle.book.proofs.Laws.{size_state, known_kind}
use Rattle.book.proofs.Passed.{rule_room, state_room, arc_room}
use Rattle.book.proofs.Scan.add.Goals as goal

pub overflow_add-self : goal.overflow_add-self
overflow_add-self c = omega (arith, rule_room _ _ _ c.requires (sym c.kind-kind.ensures ∙ c.in-1.is))

pub byte-requires : goal.byte-requires
byte-requires c = omega (arith, size_state (sym c.kind-kind.ensures ∙ c.in-2.is))

pub bounds-self-self : goal.bounds-self-self
bounds-self-self c = state_room _ _ _ c.requires (sym c.kind-kind.ensures ∙ c.in-2.is)

pub overflow_add-self-in-2 : goal.overflow_add-self-in-2
overflow_add-self-in-2 c = omega (arith, state_room _ _ _ c.requires (sym c.kind-kind.ensures ∙ c.in-2.is))

pub overflow_add-self-in-3 : goal.overflow_add-self-in-3
overflow_add-self-in-3 c = omega (arith, arc_room _ _ _ c.requires (sym c.kind-kind.ensures ∙ c.in-3.is))

pub returns-in-1 : goal.returns-in-1
unfolding record_more
returns-in-1 c = rw (sym c.kind-kind.ensures ∙ c.in-1.is)

pub returns-in-2 : goal.returns-in-2
unfolding record_more
returns-in-2 c = rw (sym c.kind-kind.ensures ∙ c.in-2.is, c.byte.ensures)

pub returns-in-3 : goal.returns-in-3
unfolding record_more
returns-in-3 c = rw (sym c.kind-kind.ensures ∙ c.in-3.is)

pub returns-in-4 : goal.returns-in-4
unfolding record_more
returns-in-4 c = rw (sym c.kind-kind.ensures ∙ c.in-4.is)

pub returns : goal.returns
returns c = absurd (omega (arith, known_kind _ c.args.record.now.known, c.kind-kind.ensures))

pub returns-2 : goal.returns-2
returns-2 c = absurd (omega (arith, known_kind _ c.args.record.now.known, c.kind-kind.ensures))
