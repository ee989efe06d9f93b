-- `rewriter::refusals::early` meets its contract: each way out has the tests before it in hand. Assumes nothing.
use Rattle.std.proofs.Common.{◌≡◌, ◌≤◌, Err, List, ℕ, length, sym, ap, ◌∙◌, arith, rules}
use Rattle.book.specs.declared.Checked.{Checked}
use Rattle.book.proofs.Refusals.{number_some}
use Rattle.stretches.specs.Buffers.{longest_tape}
use Rattle.rewriter.specs.Replies.{Refusal, first_bad, refusal}
use Rattle.rewriter.specs.Opening.{tape_refusal}
use Rattle.rewriter.proofs.Early.{tape_passed, early_book, early_tape, early_rows, early_sets, early_scratch, early_none}
use Rattle.rewriter.proofs.Whole.{rules_counted}
use Rattle.rewriter.proofs.refusals.early.Goals as goal

same-reply : {x y : Checked} → x ≡ y → x.reply ≡ y.reply
same-reply e = ap (λ (k : Checked). k.reply) e

tape-fine : (tape : List ℕ) → refusal 0 0 ≡ tape_refusal tape → (length tape ≤ longest_tape) × (length tape ≤ first_bad tape)
tape-fine tape e = tape_passed tape (sym (ap (λ (r : Refusal). r.reply) e))

pub returns-in_err-counts-clause-refusal : goal.returns-in_err-counts-clause-refusal
returns-in_err-counts-clause-refusal c =
    let e = c.in_err-counts.field-0.0 in
    let z : c.from_residual.result ≡ Err e = search rules in
    rw z
    (ap (λ (k : Checked). refusal k.reply k.place) c.in_err-counts.ensures
    ∙ early_book c.args.book.now c.args.tape.now c.args.rows c.args.sets c.args.scratch
    (λ n. number_some e.reason (same-reply c.in_err-counts.ensures ∙ n)))

pub returns-in_err-of_tape-clause-refusal : goal.returns-in_err-of_tape-clause-refusal
returns-in_err-of_tape-clause-refusal c =
    let e = c.in_err-of_tape.field-0.0 in
    let z : c.from_residual-in_err-of_tape.result ≡ Err e = search rules in
    rw z
    (c.in_err-of_tape.ensures
    ∙ early_tape c.args.book.now c.args.tape.now c.args.rows c.args.sets c.args.scratch (sym (same-reply c.in_ok-counts.ensures))
    (λ n. number_some e.reason (ap (λ (r : Refusal). r.reply) c.in_err-of_tape.ensures ∙ n)))

pub returns-then-rows-lt-ROW_BYTES-clause-refusal : goal.returns-then-rows-lt-ROW_BYTES-clause-refusal
returns-then-rows-lt-ROW_BYTES-clause-refusal c =
    let p = tape-fine _ c.in_ok-of_tape.ensures in
    rw c.at.ensures
    (early_rows c.args.book.now c.args.tape.now c.args.rows c.args.sets c.args.scratch (sym (same-reply c.in_ok-counts.ensures)) p.0 p.1 (omega arith))

pub returns-then-sets-lt-SET_WORDS-clause-refusal : goal.returns-then-sets-lt-SET_WORDS-clause-refusal
returns-then-sets-lt-SET_WORDS-clause-refusal c =
    let p = tape-fine _ c.in_ok-of_tape.ensures in
    rw c.at-then-sets-lt-SET_WORDS.ensures
    (early_sets c.args.book.now c.args.tape.now c.args.rows c.args.sets c.args.scratch (sym (same-reply c.in_ok-counts.ensures)) p.0 p.1 (omega arith))

pub returns-then-scratch-tape-clause-refusal : goal.returns-then-scratch-tape-clause-refusal
returns-then-scratch-tape-clause-refusal c =
    let p = tape-fine _ c.in_ok-of_tape.ensures in
    rw c.at-then-scratch-tape.ensures
    (early_scratch c.args.book.now c.args.tape.now c.args.rows c.args.sets c.args.scratch (sym (same-reply c.in_ok-counts.ensures)) p.0 p.1
    (omega arith) (omega arith) (omega arith))

pub returns-clause-refusal : goal.returns-clause-refusal
returns-clause-refusal c =
    let p = tape-fine _ c.in_ok-of_tape.ensures in
    early_none c.args.book.now c.args.tape.now c.args.rows c.args.sets c.args.scratch (sym (same-reply c.in_ok-counts.ensures)) p.0 p.1
    (omega arith) (omega arith) (omega arith)

pub returns-clause-counted : goal.returns-clause-counted
returns-clause-counted c =
    rules_counted c.args.book.now _ (sym (same-reply c.in_ok-counts.ensures)) (ap (λ (k : Checked). k.rules) c.in_ok-counts.ensures)
