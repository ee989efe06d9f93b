-- The sum is the number of tabs, and so at most the length of the line.
use Rattle.std.proofs.Common.{ℕ, ◌≡◌, cond, rules, tests, arith, eqb}
use Rattle.std.specs.List.{count_by}
use Rattle.std.proofs.lemmas.Iterator.{YieldsList-from_slice, YieldsList-from_map}
use Rattle.std.proofs.lemmas.Iterator.Consumers.{YieldsList-at, sum_by_from_yields_List, fits_by_from_yields_list}
use Rattle.std.proofs.lemmas.List.Sums.{count_by-le-length}
use Rattle.att.specs.Fields.{tab}
use Rattle.att.proofs.Parting.{field_count_is}
use Rattle.att.proofs.fields.field_count.Goals as goal

abbrev one : ℕ → ℕ
one x = cond (eqb x tab) 1 0

pub sum-requires-clause-fits : goal.sum-requires-clause-fits
sum-requires-clause-fits c =
    fits_by_from_yields_list one _ c.map.result _
    (YieldsList-from_map _ one (YieldsList-at c.map.ensures.source (YieldsList-from_slice c.args.l.now cc)) c.map.ensures.closure
    (λ x r q k. search (rules, tests)))
    (omega (arith, count_by-le-length (λ x. eqb x tab) c.args.l.now))

pub overflow_add-result : goal.overflow_add-result
overflow_add-result c =
    let e : c.sum.result ≡ count_by (λ x. eqb x tab) c.args.l.now = sum_by_from_yields_List one _ c.map.result _ c.sum.ensures.ran
    (YieldsList-from_map _ one (YieldsList-at c.map.ensures.source (YieldsList-from_slice c.args.l.now cc)) c.map.ensures.closure
    (λ x r q k. search (rules, tests))) in
    omega (arith, count_by-le-length (λ x. eqb x tab) c.args.l.now)

pub returns : goal.returns
returns c =
    field_count_is _ _ (sum_by_from_yields_List one _ c.map.result _ c.sum.ensures.ran
    (YieldsList-from_map _ one (YieldsList-at c.map.ensures.source (YieldsList-from_slice c.args.l.now cc)) c.map.ensures.closure
    (λ x r q k. search (rules, tests))))
