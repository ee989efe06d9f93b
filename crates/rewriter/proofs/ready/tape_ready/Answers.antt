-- `rewriter::ready::tape_ready` meets its contract: its three ways out are those of `open_def`. Assumes nothing.
use Rattle.std.proofs.Common.{◌≡◌, Err, refl, arith, rules}
use Rattle.book.specs.Refusals.{number}
use Rattle.book.proofs.Refusals.{number_some}
use Rattle.rewriter.specs.Replies.{refusal}
use Rattle.rewriter.proofs.Standing.{open_refused, open_short, open_passed, open_done}
use Rattle.rewriter.proofs.ready.tape_ready.Goals as goal

pub returns-in_err-of_tape : goal.returns-in_err-of_tape
returns-in_err-of_tape c =
    let e = c.in_err-of_tape.field-0.0 in
    let z : c.from_residual.result ≡ Err e = search rules in
    rw z (open_refused c.args.rows.now c.args.tape.now c.args.scratch.now (refusal (number e.reason) e.place) c.in_err-of_tape.ensures (number_some e.reason))

pub returns-then-scratch-tape : goal.returns-then-scratch-tape
returns-then-scratch-tape c =
    rw c.at.ensures (open_short c.args.rows.now c.args.tape.now c.args.scratch.now (refusal 0 0) c.in_ok-of_tape.ensures refl (omega arith))

pub backward-requires-clause-symbols : goal.backward-requires-clause-symbols
backward-requires-clause-symbols c = open_passed c.args.rows.now c.args.tape.now c.args.scratch.now (refusal 0 0) c.in_ok-of_tape.ensures refl

pub returns : goal.returns
returns c =
    open_done c.args.rows.now c.args.tape.now c.args.scratch.now (refusal 0 0) c.in_ok-of_tape.ensures refl
    (omega (arith, c.if-scratch-tape.false)) _ c.backward.ensures
