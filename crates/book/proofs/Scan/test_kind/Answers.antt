-- `Scan::test_kind` meets its contract: each kind's reply is that of its own function, and no record is of an unknown kind. Assumes nothing.
use mathlib.Core.Path.{◌∙◌, sym}
use borrow.Author.Tests.{eq-eqb, ne_eqb}
use native.Mathlib.Omega.{arith}
use Rattle.book.specs.Format.{kind_reply, end_reply}
use Rattle.book.proofs.Laws.{size_state, size_arc, known_kind}
use Rattle.book.proofs.Scan.test_kind.Goals as goal

pub byte-requires : goal.byte-requires
byte-requires c = omega (arith, size_state (sym c.kind-kind.ensures ∙ c.in-2.is))

pub byte-requires-in-2 : goal.byte-requires-in-2
byte-requires-in-2 c = omega (arith, size_state (sym c.kind-kind.ensures ∙ c.in-2.is))

pub byte-requires-in-3 : goal.byte-requires-in-3
byte-requires-in-3 c = omega (arith, size_arc (sym c.kind-kind.ensures ∙ c.in-3.is))

pub byte-requires-in-3-2 : goal.byte-requires-in-3-2
byte-requires-in-3-2 c = omega (arith, size_arc (sym c.kind-kind.ensures ∙ c.in-3.is))

pub byte-requires-in-3-3 : goal.byte-requires-in-3-3
byte-requires-in-3-3 c = omega (arith, size_arc (sym c.kind-kind.ensures ∙ c.in-3.is))

pub byte-requires-in-3-4 : goal.byte-requires-in-3-4
byte-requires-in-3-4 c = omega (arith, size_arc (sym c.kind-kind.ensures ∙ c.in-3.is))

pub returns-in-1 : goal.returns-in-1
unfolding kind_reply
returns-in-1 c = rw (eq-eqb _ 1 (sym c.kind-kind.ensures ∙ c.in-1.is)) c.test_rule.ensures

pub returns-in-2 : goal.returns-in-2
unfolding kind_reply
returns-in-2 c = simp (sym c.kind-kind.ensures ∙ c.in-2.is, ← c.byte.ensures, ← c.byte-in-2.ensures) c.test_state.ensures

pub returns-in-3 : goal.returns-in-3
unfolding kind_reply
returns-in-3 c = simp (sym c.kind-kind.ensures ∙ c.in-3.is, ← c.byte-in-3.ensures, ← c.byte-in-3-2.ensures, ← c.byte-in-3-3.ensures, ← c.byte-in-3-4.ensures) c.test_arc.ensures

pub returns-then-self-eq0 : goal.returns-then-self-eq0
unfolding kind_reply end_reply
returns-then-self-eq0 c = simp (sym c.kind-kind.ensures ∙ c.in-4.is, eq-eqb _ _ c.if-self-eq0.true)

pub returns-else-self-eq0 : goal.returns-else-self-eq0
unfolding kind_reply end_reply
returns-else-self-eq0 c = simp (sym c.kind-kind.ensures ∙ c.in-4.is, ne_eqb _ _ c.if-self-eq0.false)

pub returns-in-0 : goal.returns-in-0
returns-in-0 c = absurd (omega (arith, known_kind _ c.args.record.now.known, c.kind-kind.ensures))

pub returns-in-0-2 : goal.returns-in-0-2
returns-in-0-2 c = absurd (omega (arith, known_kind _ c.args.record.now.known, c.kind-kind.ensures))
