-- `heat::begin` meets its contract: each way out is a row of `begin_def`. Assumes nothing.
use Rattle.std.proofs.Common.{◌≡◌, Err, refl, sym, ap, arith, rules}
use Rattle.book.specs.declared.Checked.{Checked}
use Rattle.book.proofs.Refusals.{number_some}
use Rattle.sets.specs.Workspace.{refusal}
use Rattle.sets.proofs.Tables.{way_rows, way_sets}
use Rattle.rewriter.proofs.Whole.{rules_counted}
use Rattle.heat.proofs.Begins.{begin_many, begin_built, begin_unchecked, begin_as_built}
use Rattle.heat.proofs.begin.Goals as goal

same-reply : {x y : Checked} → x ≡ y → x.reply ≡ y.reply
same-reply e = ap (λ (k : Checked). k.reply) e

pub returns-then-lanes-gt-MOST_LANES-clause-begun : goal.returns-then-lanes-gt-MOST_LANES-clause-begun
returns-then-lanes-gt-MOST_LANES-clause-begun c = rw c.at.ensures (begin_many c.args.book.now c.args.lanes c.args.rows.now c.args.sets.now (omega arith))

pub returns-in_err-counts-clause-begun : goal.returns-in_err-counts-clause-begun
returns-in_err-counts-clause-begun c =
    let e = c.in_err-counts.field-0.0 in
    let z : c.from_residual.result ≡ Err e = search rules in
    rw z (begin_unchecked c.args.book.now c.args.lanes c.args.rows.now c.args.sets.now (omega arith) _ c.in_err-counts.ensures (number_some e.reason))

pub returns-then-rows-lt-ROW_BYTES-clause-begun : goal.returns-then-rows-lt-ROW_BYTES-clause-begun
returns-then-rows-lt-ROW_BYTES-clause-begun c =
    rw c.at-then-rows-lt-ROW_BYTES.ensures
    (begin_built c.args.book.now c.args.lanes c.args.rows.now c.args.sets.now (omega arith) _ _ _
    (way_rows c.args.book.now c.args.rows.now c.args.sets.now (sym (same-reply c.in_ok-counts.ensures)) (refusal 11 0) (omega arith) refl))

pub returns-then-sets-lt-SET_WORDS-clause-begun : goal.returns-then-sets-lt-SET_WORDS-clause-begun
returns-then-sets-lt-SET_WORDS-clause-begun c =
    rw c.at-then-sets-lt-SET_WORDS.ensures
    (begin_built c.args.book.now c.args.lanes c.args.rows.now c.args.sets.now (omega arith) _ _ _
    (way_sets c.args.book.now c.args.rows.now c.args.sets.now (sym (same-reply c.in_ok-counts.ensures)) (refusal 11 0) (omega arith) refl))

pub number_book-requires : goal.number_book-requires
number_book-requires c =
    record {
      book_value = sym (same-reply c.in_ok-counts.ensures);
      row_bytes_in_bounds = search rules;
    }

pub returns-in_err-number_book-clause-begun : goal.returns-in_err-number_book-clause-begun
returns-in_err-number_book-clause-begun c =
    let e = c.in_err-number_book.field-0.0 in
    let z : c.from_residual-in_err-number_book.result ≡ Err e = search rules in
    rw z (begin_built c.args.book.now c.args.lanes c.args.rows.now c.args.sets.now (omega arith) _ _ _ c.in_err-number_book.ensures)

pub returns-clause-begun : goal.returns-clause-begun
returns-clause-begun c =
    begin_built c.args.book.now c.args.lanes c.args.rows.now c.args.sets.now (omega arith) _ _ _ c.in_ok-number_book.ensures

pub returns-clause-built : goal.returns-clause-built
returns-clause-built c = (
  begin_as_built c.args.book.now c.args.lanes c.args.rows.now c.args.sets.now _ _ _ c.in_ok-number_book.ensures refl,
  rules_counted c.args.book.now _ (sym (same-reply c.in_ok-counts.ensures)) (ap (λ (k : Checked). k.rules) c.in_ok-counts.ensures),
)
