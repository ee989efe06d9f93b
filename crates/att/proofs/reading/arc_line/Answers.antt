use Rattle.std.proofs.Common.{◌∙◌, ◌≤◌, ap, arith, rules}
use Rattle.att.specs.Results.{line_read}
use Rattle.att.proofs.Results.{passed_on}
use Rattle.att.proofs.Parting.{too_high_read, no_number_read}
use Rattle.att.proofs.Rows.{arc_cut, arc_from, arc_to, arc_none, arc_empty, arc_high, arc_good}
use Rattle.att.proofs.reading.arc_line.Goals as goal

pub returns-in_err-from : goal.returns-in_err-from
returns-in_err-from c next =
    ap (λ r. line_read r next) (passed_on _ _ c.from_residual.ensures.1)
    ∙ rw c.in_err-from.ensures.0 (arc_from _ _ _ _ c.in_err-from.ensures.1)
    ∙ arc_cut _ _ _ _ _ _ next c.cut.ensures.field c.cut.ensures.rest c.cut-2.ensures.field c.cut-2.ensures.rest c.cut-3.ensures.field

pub returns-in_err-to : goal.returns-in_err-to
returns-in_err-to c next =
    ap (λ r. line_read r next) (passed_on _ _ c.from_residual-in_err-to.ensures.1)
    ∙ rw c.in_err-to.ensures.0 (arc_to _ _ _ _ (omega (arith, c.in_ok-from.ensures)) c.in_err-to.ensures.1)
    ∙ arc_cut _ _ _ _ _ _ next c.cut.ensures.field c.cut.ensures.rest c.cut-2.ensures.field c.cut-2.ensures.rest c.cut-3.ensures.field

pub returns-in-Ok-eq0 : goal.returns-in-Ok-eq0
returns-in-Ok-eq0 c next = arc_empty _ _ _ _ (omega (arith, c.in_ok-from.ensures)) (omega (arith, c.in_ok-to.ensures)) (omega (arith, c.in-Ok-eq0.ensures)) (omega (arith, c.in-Ok-eq0.ensures)) ∙ arc_cut _ _ _ _ _ _ next c.cut.ensures.field c.cut.ensures.rest c.cut-2.ensures.field c.cut-2.ensures.rest c.cut-3.ensures.field

pub returns-then-k-gt-LABELS : goal.returns-then-k-gt-LABELS
returns-then-k-gt-LABELS c next = arc_high _ _ _ _ (omega (arith, c.in_ok-from.ensures)) (omega (arith, c.in_ok-to.ensures)) (let h : c.in-Ok.k ≤ 65535 = search rules in omega (arith, c.in-Ok.ensures)) (omega (arith, c.in-Ok.ensures, c.in-Ok.k-test)) (omega (arith, c.in-Ok.ensures)) ∙ arc_cut _ _ _ _ _ _ next c.cut.ensures.field c.cut.ensures.rest c.cut-2.ensures.field c.cut-2.ensures.rest c.cut-3.ensures.field

pub returns-in-Err-TooHigh : goal.returns-in-Err-TooHigh
returns-in-Err-TooHigh c next = arc_high _ _ _ _ (omega (arith, c.in_ok-from.ensures)) (omega (arith, c.in_ok-to.ensures)) (omega (arith, too_high_read _ _ c.in-Err-TooHigh.field-0-is c.in-Err-TooHigh.ensures)) (omega (arith, too_high_read _ _ c.in-Err-TooHigh.field-0-is c.in-Err-TooHigh.ensures)) (omega (arith, too_high_read _ _ c.in-Err-TooHigh.field-0-is c.in-Err-TooHigh.ensures)) ∙ arc_cut _ _ _ _ _ _ next c.cut.ensures.field c.cut.ensures.rest c.cut-2.ensures.field c.cut-2.ensures.rest c.cut-3.ensures.field

pub returns-in-Err-NoNumber : goal.returns-in-Err-NoNumber
returns-in-Err-NoNumber c next = arc_none _ _ _ _ (omega (arith, c.in_ok-from.ensures)) (omega (arith, c.in_ok-to.ensures)) (no_number_read _ _ c.in-Err-NoNumber.field-0-is c.in-Err-NoNumber.ensures) ∙ arc_cut _ _ _ _ _ _ next c.cut.ensures.field c.cut.ensures.rest c.cut-2.ensures.field c.cut-2.ensures.rest c.cut-3.ensures.field

pub returns-else-k-gt-LABELS : goal.returns-else-k-gt-LABELS
returns-else-k-gt-LABELS c next = arc_good _ _ _ _ _ _ _ c.in_ok-from.ensures.0 c.in_ok-from.ensures.1 c.in_ok-to.ensures.0 c.in_ok-to.ensures.1 c.in-Ok.ensures (omega (arith, c.in-Ok.k-test)) c.if-k-gt-LABELS.false ∙ arc_cut _ _ _ _ _ _ next c.cut.ensures.field c.cut.ensures.rest c.cut-2.ensures.field c.cut-2.ensures.rest c.cut-3.ensures.field
