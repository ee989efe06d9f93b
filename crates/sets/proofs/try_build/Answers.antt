-- `try_build` meets its contract by each of four ways out: CHECK's refusal, either piece too short, both sides numbered. Assumes nothing.
use mathlib.Core.Logic.{inl, inr}
use mathlib.Core.Path.{◌≡◌, sym, ap, ◌∙◌}
use borrow.Author.Rules.{rules}
use native.Mathlib.Omega.{arith}
use Rattle.std.proofs.Common.{Err}
use Rattle.book.specs.declared.Checked.{Checked}
use Rattle.book.specs.declared.replies.Refusal.{Refusal}
use Rattle.book.proofs.Refusals.{number_some}
use Rattle.sets.specs.Workspace.{refusal}
use Rattle.sets.specs.Results.{built}
use Rattle.sets.proofs.WaysOut.{way_refused, way_rows, way_sets}
use Rattle.sets.proofs.try_build.Goals as goal

pub returns-in_err-read : goal.returns-in_err-read
returns-in_err-read c =
    let e = c.in_err-read.field-0.0 in
    let z : c.from_residual.result ≡ Err e = search rules in
    rw z (way_refused _ _ _ _ (λ n. number_some e.reason (ap (λ (x : Checked). x.reply) c.in_err-read.ensures ∙ n))
    (ap (λ (x : Checked). refusal x.reply x.place) c.in_err-read.ensures))

pub returns-then-rows-lt-ROW_BYTES : goal.returns-then-rows-lt-ROW_BYTES
returns-then-rows-lt-ROW_BYTES c =
    let z = sym (ap (λ (x : Checked). x.reply) c.in_ok-read.ensures) in
    let e = ap (λ (x : Refusal). built (Err x)) c.at.ensures in
    elim c.then-rows-lt-ROW_BYTES.either [
      | inl h ↦ way_rows _ _ _ z _ (omega (arith, h)) e
      | inr h ↦ way_sets _ _ _ z _ (omega (arith, h)) e
    ]
