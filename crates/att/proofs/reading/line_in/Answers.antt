-- That the number of fields is none of those tested is left to `omega`, so that a test that changes is refused as a fact and not as a name.
use Rattle.std.proofs.Common.{◌∙◌, arith}
use Rattle.att.proofs.Rows.{line_even, line_open, line_final, line_arc, line_other}
use Rattle.att.proofs.reading.line_in.Goals as goal

pub returns-then-n-eq2 : goal.returns-then-n-eq2
returns-then-n-eq2 c next = line_even _ _ _ _ c.field_count-n.ensures c.then-n-eq2.either

pub returns-then-not-ended : goal.returns-then-not-ended
returns-then-not-ended c next = line_open _ _ _ _ c.field_count-n.ensures (omega arith) (omega arith) c.if-not-ended.true

pub returns-in-1 : goal.returns-in-1
returns-in-1 c next =
    c.final_line.ensures next
    ∙ line_final _ _ _ _ c.field_count-n.ensures (omega arith) (omega arith) c.if-not-ended.false c.in-1.is

pub returns-in-3 : goal.returns-in-3
returns-in-3 c next =
    c.arc_line.ensures next
    ∙ line_arc _ _ _ _ c.field_count-n.ensures (omega arith) (omega arith) c.if-not-ended.false (omega (arith, c.in-3.is)) c.in-3.is

pub returns-in_default : goal.returns-in_default
returns-in_default c next =
    line_other _ _ _ _ c.field_count-n.ensures (omega arith) (omega arith) c.if-not-ended.false (omega arith) (omega arith)
