use Rattle.std.proofs.Common.{arith, sym, ◌∙◌, ap}
use Rattle.att.specs.Results.{written_by}
use Rattle.att.proofs.Results.{passed_on, some_number}
use Rattle.att.proofs.Planning.{import_refused, import_written}
use Rattle.att.proofs.try_import.Goals as goal

pub returns-in_err-plan : goal.returns-in_err-plan
returns-in_err-plan c =
    let e = ap written_by (passed_on _ _ c.from_residual.ensures.1) in
    import_refused _ _ _ _ _ (e ∙ c.in_err-plan.ensures.answer) (λ z. some_number _ (sym (ap (λ w. w.reply) e) ∙ z))

pub returns : goal.returns
returns c =
    let p = c.in_ok-plan.ensures.of in
    import_written _ _ _ _ _ _ c.in_ok-plan.plan.bytes (omega arith) c.in_ok-plan.ensures.answer (rw (p.part, p.first, p.text) at c.put.ensures)
