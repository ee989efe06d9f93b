use Rattle.std.proofs.Common.{rules, tests, arith, ◌∙◌, ap, sym}
use Rattle.std.proofs.lemmas.Iterator.{YieldsList-from_slice}
use Rattle.std.proofs.lemmas.Iterator.Search.{all_from_yields_List}
use Rattle.att.specs.Fields.{digit}
use Rattle.att.specs.Results.{number_read}
use Rattle.att.proofs.Results.{passed_on}
use Rattle.att.proofs.Parting.{digits_start, number_none, number_bad, number_end, number_high, digits_more, refused_high}
use Rattle.att.proofs.fields.number.Goals.{then-is_empty-via-then-is_empty, then-is_empty-via-else-is_empty+then-not-all}
use Rattle.att.proofs.fields.number.Goals as goal

pub returns-then-is_empty : goal.returns-then-is_empty
returns-then-is_empty c =
    elim c.then-is_empty.branch [
      | then-is_empty-via-then-is_empty w ↦ number_none _ (search (rules, tests))
      | then-is_empty-via-else-is_empty+then-not-all w ↦
          number_bad _ (search (rules, tests))
          (sym (all_from_yields_List digit _ _ _ w.all.ensures.ran (YieldsList-from_slice c.args.f.now cc) (λ x b q k. search (rules, tests)))
          ∙ w.if-not-all.true)
    ]

pub loop-d-init : goal.loop-d-init
loop-d-init c =
    digits_start _ (search (rules, tests))
    (sym (all_from_yields_List digit _ _ _ c.all.ensures.ran (YieldsList-from_slice c.args.f.now cc) (λ x b q k. search (rules, tests)))
    ∙ c.if-not-all.false)

pub returns-in_err-v : goal.returns-in_err-v
returns-in_err-v c =
    let d = digits_more _ _ _ c.loop-d.invariant c.loop-d-test.true _ c.in_err-v.ensures in
    ap number_read (passed_on _ _ c.from_residual.ensures.1) ∙ number_high _ _ _ d (refused_high _ _ c.in_err-v.ensures).1

pub loop-d-preserved : goal.loop-d-preserved
loop-d-preserved c = digits_more _ _ _ c.loop-d.invariant c.loop-d-test.true _ c.in_ok-v.ensures

pub returns : goal.returns
returns c = number_end _ _ _ c.loop-d.invariant (omega arith)
