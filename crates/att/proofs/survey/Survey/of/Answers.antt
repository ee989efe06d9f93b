use Rattle.std.proofs.Common.{◌∙◌, arith, rules}
use Rattle.att.specs.Results.{said}
use Rattle.att.proofs.Results.{passed_on}
use Rattle.att.proofs.Surveying.{lists_kept, pass_start, pass_more, pass_end, pass_refused, line_on}
use Rattle.att.proofs.survey.Survey.of.Goals as goal

pub loop-line-init : goal.loop-line-init
loop-line-init c = record { same = c.new-lines.ensures.text; pass = rw c.new-lines.ensures.at (pass_start _ _ c.new.ensures) }

pub returns-in_err-line : goal.returns-in_err-line
returns-in_err-line c =
    rw (passed_on _ _ c.from_residual.ensures.1) (pass_refused _ _ _ _ c.loop-line.invariant.pass _ (rw (← c.loop-line.invariant.same) c.in_err-line.ensures.line)
    c.in_err-line.ensures.place)

pub loop-line-smaller : goal.loop-line-smaller
loop-line-smaller c =
    let k = rw (c.in-Some.is, c.loop-line.invariant.same) at c.in_ok-line.ensures.line in
    let h = line_on _ _ _ _ k in omega arith

pub loop-line-preserved : goal.loop-line-preserved
loop-line-preserved c =
    let k = rw (c.in-Some.is, c.loop-line.invariant.same) at c.in_ok-line.ensures.line in
    record {
      same = c.in_ok-line.ensures.text ∙ c.loop-line.invariant.same;
      pass = pass_more _ _ _ _ c.loop-line.invariant.pass (said c.in-Some.line) _ k _ (rw c.arcs-arcs.ensures) _ (lists_kept _ _ _ _ _ c.take_if.ensures.none c.take_if.ensures.some (λ p q b h. search rules));
    }

pub returns : goal.returns
returns c = pass_end _ _ _ _ c.loop-line.invariant.pass (rw (← c.loop-line.invariant.same) (rw c.in_default.is at c.in_ok-line.ensures.line))
