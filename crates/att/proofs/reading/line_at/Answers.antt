use Rattle.std.proofs.Common.{◌∙◌, ap, arith, Ok, Err}
use Rattle.att.specs.Results.{line_found}
use Rattle.att.proofs.Results.{passed_on}
use Rattle.att.proofs.Rows.{line_none, line_length_lem, line_step, next_within}
use Rattle.att.proofs.reading.line_at.Goals as goal

pub returns-then-text-at : goal.returns-then-text-at
returns-then-text-at c = line_none _ _ c.if-text-at.true

pub slice_bounds-line_in-end : goal.slice_bounds-line_in-end
slice_bounds-line_in-end c = line_length_lem c.args.text.now _ c.if-text-at.false _ c.span-e.ensures

pub returns-in_err-line : goal.returns-in_err-line
returns-in_err-line c =
    ap line_found (passed_on _ _ c.from_residual.ensures.1) ∙ line_step c.args.text.now _ c.if-text-at.false _ c.span-e.ensures (Err _) c.in_err-line.ensures

pub overflow_add-result : goal.overflow_add-result
overflow_add-result c = let h = next_within c.args.text.now _ c.if-text-at.false _ c.span-e.ensures _ (c.in_ok-line.ensures 0) in omega arith

pub overflow_add-result-2 : goal.overflow_add-result-2
overflow_add-result-2 c = let h = next_within c.args.text.now _ c.if-text-at.false _ c.span-e.ensures _ (c.in_ok-line.ensures 0) in omega arith

pub returns : goal.returns
returns c = line_step c.args.text.now _ c.if-text-at.false _ c.span-e.ensures (Ok _) c.in_ok-line.ensures
