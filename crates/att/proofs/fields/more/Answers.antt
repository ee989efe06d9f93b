use Rattle.std.proofs.Common.{arith, ◌∙◌, ap, sym}
use Rattle.att.specs.Numbers.{capped}
use Rattle.att.specs.Results.{number_read}
use Rattle.att.proofs.Results.{passed_on}
use Rattle.att.proofs.Parting.{checked_read, checked_ok, refused_high, capped_big}
use Rattle.att.proofs.fields.more.Goals as goal

pub returns-in_err-tens : goal.returns-in_err-tens
returns-in_err-tens c =
    let e = ap number_read c.in_err-tens.ensures.value ∙ checked_read _ _ c.checked_mul.ensures in
    let h = refused_high _ _ e in
    ap number_read (passed_on _ _ c.from_residual.ensures.1) ∙ e ∙ capped_big _ h.0 ∙ sym (capped_big _ (omega arith))

pub returns : goal.returns
returns c =
    let t = checked_ok _ _ _ _ c.checked_mul.ensures c.in_ok-tens.ensures.value in
    ap number_read c.ok_or-2.ensures.value ∙ checked_read _ _ c.checked_add.ensures ∙ ap capped (omega (arith, t, c.from.ensures))
