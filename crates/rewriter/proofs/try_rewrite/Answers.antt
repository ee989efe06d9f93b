-- `rewriter::try_rewrite` meets its contract: refused as `early` or `make_ready` refuses, else as `output::rewrite_ready` answers. Assumes nothing.
use Rattle.std.proofs.Common.{◌≡◌, Err, refl, sym, rules}
use Rattle.book.specs.Refusals.{number}
use Rattle.book.proofs.Pad.{pad_nil}
use Rattle.book.proofs.Placing.{placed}
use Rattle.book.proofs.Refusals.{number_some}
use Rattle.rewriter.specs.Replies.{refusal}
use Rattle.rewriter.proofs.Whole.{rewrite_refused, rewrite_done}
use Rattle.rewriter.proofs.MakeReady.{leaves_refused, opened, left_ready}
use Rattle.rewriter.proofs.try_rewrite.Goals as goal

pub returns-in_err-rules : goal.returns-in_err-rules
returns-in_err-rules c =
    let e = c.in_err-rules.field-0.0 in
    let z : c.from_residual.result ≡ Err e = search rules in
    rw z
    (rewrite_refused c.args.book.now c.args.tape.now c.args.rows.now c.args.sets.now c.args.scratch.now (refusal (number e.reason) e.place) _ _ _
    (leaves_refused c.args.book.now c.args.tape.now c.args.rows.now c.args.sets.now c.args.scratch.now _ c.in_err-rules.ensures.refusal (number_some e.reason))
    (number_some e.reason) c.args.out.now c.args.origins.now _ refl)

pub outline_of-requires-clause-s_value : goal.outline_of-requires-clause-s_value
outline_of-requires-clause-s_value c =
    (opened c.args.book.now c.args.tape.now c.args.rows.now c.args.sets.now c.args.scratch.now c.in_ok-rules.ensures.refusal).accepted

pub outline_of-requires-clause-places_value : goal.outline_of-requires-clause-places_value
outline_of-requires-clause-places_value c = (sym (pad_nil _), sym (pad_nil _))

pub new-outline-requires-clause-accepted : goal.new-outline-requires-clause-accepted
new-outline-requires-clause-accepted c =
    (opened c.args.book.now c.args.tape.now c.args.rows.now c.args.sets.now c.args.scratch.now c.in_ok-rules.ensures.refusal).accepted

pub new-outline-requires-clause-placed : goal.new-outline-requires-clause-placed
new-outline-requires-clause-placed c =
    let p = opened c.args.book.now c.args.tape.now c.args.rows.now c.args.sets.now c.args.scratch.now c.in_ok-rules.ensures.refusal in
    placed _ _ p.accepted c.outline_of.ensures.places_after

pub returns-in_err-make_ready : goal.returns-in_err-make_ready
returns-in_err-make_ready c =
    let e = c.in_err-make_ready.field-0.0 in
    let z : c.from_residual-in_err-make_ready.result ≡ Err e = search rules in
    rw z
    (rewrite_refused c.args.book.now c.args.tape.now c.args.rows.now c.args.sets.now c.args.scratch.now (refusal (number e.reason) e.place) _ _ _
    (rw (c.new-outline.ensures.0) at c.in_err-make_ready.ensures) (number_some e.reason) c.args.out.now c.args.origins.now _ refl)

pub pass_over-pass-requires-clause-ready : goal.pass_over-pass-requires-clause-ready
pass_over-pass-requires-clause-ready c =
    left_ready c.args.book.now c.args.tape.now c.args.rows.now c.args.sets.now c.args.scratch.now (refusal 0 0) _ _ _
    (rw (c.new-outline.ensures.0) at c.in_ok-make_ready.ensures) refl

pub returns : goal.returns
returns c =
    rewrite_done c.args.book.now c.args.tape.now c.args.rows.now c.args.sets.now c.args.scratch.now (refusal 0 0) _ _ _
    (rw (c.new-outline.ensures.0) at c.in_ok-make_ready.ensures) refl
    c.args.out.now c.args.origins.now _ _ _ (rw (c.pass_over-pass.ensures.0, c.pass_over-pass.ensures.1) at c.rewrite_ready.ensures)
