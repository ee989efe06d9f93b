-- `rewriter::rewrite_built` meets its contract: over a workspace as BUILD left it, the tests and the backward pass leave what `ready_def` says. Assumes nothing.
use Rattle.std.proofs.Common.{◌≡◌, Err, refl, sym, rules}
use Rattle.book.specs.Refusals.{number}
use Rattle.book.proofs.Pad.{pad_nil}
use Rattle.book.proofs.Placing.{placed}
use Rattle.book.proofs.Refusals.{number_some}
use Rattle.rewriter.specs.Replies.{refusal}
use Rattle.rewriter.proofs.MakeReady.{left_ready}
use Rattle.rewriter.proofs.Whole.{rewrite_refused, rewrite_done}
use Rattle.rewriter.proofs.Standing.{built_room, opened_ready}
use Rattle.rewriter.proofs.rewrite_built.Goals as goal

pub tape_ready-requires : goal.tape_ready-requires
tape_ready-requires c = (built_room c.args.book.now c.args.rows.now c.args.sets.now c.requires.as_built).rows

pub returns-in_err-tape_ready : goal.returns-in_err-tape_ready
returns-in_err-tape_ready c =
    let e = c.in_err-tape_ready.field-0.0 in
    let z : c.from_residual.result ≡ Err e = search rules in
    rw z
    (rewrite_refused c.args.book.now c.args.tape.now c.args.rows.now c.args.sets.now c.args.scratch.now (refusal (number e.reason) e.place) _ _ _
    (opened_ready c.args.book.now c.args.rows.now c.args.sets.now c.requires.as_built c.args.tape.now c.args.scratch.now _ _ c.in_err-tape_ready.ensures)
    (number_some e.reason) c.args.out.now c.args.origins.now _ refl)

pub outline_of-requires-clause-s_value : goal.outline_of-requires-clause-s_value
outline_of-requires-clause-s_value c = (built_room c.args.book.now c.args.rows.now c.args.sets.now c.requires.as_built).accepted

pub outline_of-requires-clause-places_value : goal.outline_of-requires-clause-places_value
outline_of-requires-clause-places_value c = (sym (pad_nil _), sym (pad_nil _))

pub pass_over-pass-requires : goal.pass_over-pass-requires
pass_over-pass-requires c =
    let r = left_ready c.args.book.now c.args.tape.now c.args.rows.now c.args.sets.now c.args.scratch.now (refusal 0 0) _ _ _
    (opened_ready c.args.book.now c.args.rows.now c.args.sets.now c.requires.as_built c.args.tape.now c.args.scratch.now _ _ c.in_ok-tape_ready.ensures) refl in
    record {
      placed = placed _ _ r.accepted c.outline_of.ensures.places_after;
      masked = c.outline_of.ensures.masked;
      counted = c.requires.rules_value;
      ready = r;
    }

pub returns : goal.returns
returns c =
    rewrite_done c.args.book.now c.args.tape.now c.args.rows.now c.args.sets.now c.args.scratch.now (refusal 0 0) _ _ _
    (opened_ready c.args.book.now c.args.rows.now c.args.sets.now c.requires.as_built c.args.tape.now c.args.scratch.now _ _ c.in_ok-tape_ready.ensures) refl
    c.args.out.now c.args.origins.now _ _ _ (rw (c.pass_over-pass.ensures.0, c.pass_over-pass.ensures.1) at c.rewrite_ready.ensures)
