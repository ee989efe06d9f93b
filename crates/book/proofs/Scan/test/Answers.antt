-- `Scan::test` meets its contract: the tests of a record are those of its place and then its kind's own. Assumes nothing.
use borrow.Author.Rules.{rules}
use mathlib.Core.Path.{◌≡◌, ap₂, sym, ◌∙◌}
use Rattle.std.specs.Prelude.{Err}
use Rattle.book.specs.Format.{kind_reply}
use Rattle.book.proofs.Passed.{kind_only, none_whole}
use Rattle.book.proofs.Refusals.{number_some}
use Rattle.book.proofs.Scan.test.Goals as goal

pub returns-in_err-record-clause-reply : goal.returns-in_err-record-clause-reply
returns-in_err-record-clause-reply c =
    let z : c.from_residual.result ≡ Err c.in_err-record.field-0.0 = search rules in
    let e = c.in_err-record.ensures.reply in
    rw z (e ∙ sym (none_whole _ _ c.args.self.now (λ n. number_some c.in_err-record.field-0.0 (e ∙ n))))

pub returns-in_err-test_kind-clause-reply : goal.returns-in_err-test_kind-clause-reply
returns-in_err-test_kind-clause-reply c =
    let z : c.from_residual-in_err-test_kind.result ≡ Err c.in_err-test_kind.field-0.0 = search rules in
    let r = c.in_ok-record.ensures in
    rw z (c.in_err-test_kind.ensures ∙ ap₂ (λ s at. kind_reply s at c.args.self.now) r.record.0 r.record.1 ∙ sym (kind_only _ _ c.args.self.now (sym r.reply)))

pub returns-clause-reply : goal.returns-clause-reply
returns-clause-reply c =
    let r = c.in_ok-record.ensures in
    c.in_ok-test_kind.ensures ∙ ap₂ (λ s at. kind_reply s at c.args.self.now) r.record.0 r.record.1 ∙ sym (kind_only _ _ c.args.self.now (sym r.reply))
