use Rattle.std.proofs.Common.{arith, ◌∙◌, refl, ap, length, Err}
use lib.ListN.{length-take}
use Rattle.att.specs.Planned.{plan_answer}
use Rattle.att.specs.Survey.{fresh}
use Rattle.att.proofs.Results.{passed_on, refused_by}
use Rattle.att.proofs.Filling.{fresh_most}
use Rattle.att.proofs.Planning.{planned_refused, planned_many, planned_by, planned_fits, planned_listed, planned_whole, planned_accepted}
use Rattle.att.proofs.part.Plan.new.Goals as goal

pub returns-in_err-arcs-clause-answer : goal.returns-in_err-arcs-clause-answer
returns-in_err-arcs-clause-answer c =
    ap plan_answer (passed_on _ _ c.from_residual.ensures.1) ∙ planned_refused c.args.text.now c.args.part c.args.first c.args.room (omega arith) _ c.in_err-arcs.ensures

pub returns-in_err-known-clause-answer : goal.returns-in_err-known-clause-answer
returns-in_err-known-clause-answer c =
    ap plan_answer (passed_on _ _ c.from_residual-in_err-known.ensures.1)
    ∙ ap (λ r. plan_answer (Err r)) (refused_by _ _ _ c.in_err-known.ensures.ok_part c.in_err-known.ensures.value ∙ c.at-2.ensures)
    ∙ planned_many c.args.text.now c.args.part c.args.first c.args.room (omega arith) _ c.in_ok-arcs.ensures c.in_err-known.ensures.ok_part

pub judged-requires : goal.judged-requires
judged-requires c =
    fresh_most 64 _ _ c.states_of.ensures (omega arith) (omega (arith, c.count.ensures, length-take c.in_ok-known.known.count c.in_ok-known.known.list))

pub returns-in_err-bytes-clause-answer : goal.returns-in_err-bytes-clause-answer
returns-in_err-bytes-clause-answer c =
    ap plan_answer (passed_on _ _ c.from_residual-in_err-bytes.ensures.1)
    ∙ c.in_err-bytes.ensures
    ∙ planned_by c.args.text.now c.args.part c.args.first c.args.room (omega arith) _ c.in_ok-arcs.ensures _ c.in_ok-known.ensures.ok_part _ (c.states_of.ensures ∙ ap (λ n. length (fresh n)) c.count.ensures)

pub invariant_of-result : goal.invariant_of-result
invariant_of-result c = record {
  accepted = planned_accepted c.args.text.now c.args.part c.args.first c.args.room (omega arith) _ c.in_ok-arcs.ensures _ c.in_ok-known.ensures.ok_part _ (c.states_of.ensures ∙ ap (λ n. length (fresh n)) c.count.ensures) _ c.in_ok-bytes.ensures;
  listed = planned_listed c.args.text.now c.args.part c.args.first c.args.room (omega arith) _ c.in_ok-arcs.ensures _ c.in_ok-known.ensures.ok_part;
  whole = planned_whole c.args.text.now c.args.part c.args.first c.args.room (omega arith) _ c.in_ok-arcs.ensures _ c.in_ok-known.ensures.ok_part _ (c.states_of.ensures ∙ ap (λ n. length (fresh n)) c.count.ensures) _ c.in_ok-bytes.ensures;
}

pub returns-clause-answer : goal.returns-clause-answer
returns-clause-answer c = c.in_ok-bytes.ensures ∙ planned_by c.args.text.now c.args.part c.args.first c.args.room (omega arith) _ c.in_ok-arcs.ensures _ c.in_ok-known.ensures.ok_part _ (c.states_of.ensures ∙ ap (λ n. length (fresh n)) c.count.ensures)

pub returns-clause-of : goal.returns-clause-of
returns-clause-of c = record { text = refl; part = refl; first = refl; fits = planned_fits c.args.text.now c.args.part c.args.first c.args.room (omega arith) _ c.in_ok-arcs.ensures _ c.in_ok-known.ensures.ok_part _ (c.states_of.ensures ∙ ap (λ n. length (fresh n)) c.count.ensures) _ c.in_ok-bytes.ensures }
