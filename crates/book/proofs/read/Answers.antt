-- `read` meets its contract: at each record, what the definition makes of the records from there on is what it makes of the whole book
-- (`Progress`), so each way out is one law of it. Assumes nothing.
use borrow.Author.Rules.{rules}
use mathlib.Core.Path.{◌≡◌, ap, ap₂, subst, ◌∙◌, sym}
use mathlib.Core.List.{List}
use Prim.Native.Nat.{ℕ}
use native.Mathlib.Omega.{arith}
use Rattle.std.specs.Prelude.{Result, Ok, Err, IfOk}
use Rattle.book.specs.declared.replies.Reason.{Reason}
use Rattle.book.specs.declared.record.Record.{Record}
use Rattle.book.specs.declared.Scan.{Scan}
use Rattle.book.specs.Format.{byte, record_reply}
use Rattle.book.specs.Refusals.{number, number_of}
use Rattle.book.proofs.Laws.{known_kind}
use Rattle.book.proofs.Passed.{passed}
use Rattle.book.proofs.Refusals.{number_some, placed_ok, placed_err}
use Rattle.book.proofs.Progress.{start, check_refused, check_followed, check_accepted, check_out, more}
use Rattle.book.proofs.read.Goals as goal
use Rattle.book.proofs.read.Goals.{in-0-1, in_default+else-kind-lt4}

-- a record that passed its tests
record Tested (s : List ℕ) (at : ℕ) (g : Scan) (r : Record) : Type 0 where
  reply : record_reply s at g ≡ 0
  book : r.book.now ≡ s
  place : r.at ≡ at

tested : (s : List ℕ) (at : ℕ) (g : Scan) (x : Result Record Reason) → number_of x ≡ record_reply s at g
    → IfOk x (λ r. (r.book.now ≡ s) × (r.at ≡ at)) → (r : Record) → x ≡ Ok r → Tested s at g r
tested s at g x p f r o =
    let is : (r.book.now ≡ s) × (r.at ≡ at) = subst (λ (y : Result Record Reason). IfOk y (λ r. (r.book.now ≡ s) × (r.at ≡ at))) o f in
    record { reply = sym p ∙ ap number_of o; book = is.0; place = is.1 }

pub loop-at-init : goal.loop-at-init
loop-at-init c = start _

pub returns-in_err-record : goal.returns-in_err-record
returns-in_err-record c =
    let q = placed_err _ _ _ c.map_err.ensures.cases _ c.in_err-record.was in
    let z : c.from_residual.result ≡ Err c.in_err-record.field-0.0 = search rules in
    let e : c.in_err-record.field-0.0 ≡ record { reason = q.0; place = c.loop-at.at } = search rules in
    rw (z, e) (check_refused _ _ _ c.loop-at.invariant c.loop-at-test.true (number q.0) (sym c.test.ensures.reply ∙ ap number_of q.1) (number_some q.0))

pub returns-then-at-book : goal.returns-then-at-book
returns-then-at-book c =
    let p = tested _ _ _ _ c.test.ensures.reply c.test.ensures.record _ (placed_ok _ _ _ c.map_err.ensures.cases _ c.in_ok-record.was) in
    let k = sym (ap₂ byte p.book p.place) ∙ sym c.kind-kind.ensures ∙ c.in-4.is in
    rw c.at.ensures (check_followed _ _ _ c.loop-at.invariant c.loop-at-test.true p.reply k (omega arith))

pub returns-in-4 : goal.returns-in-4
returns-in-4 c =
    let p = tested _ _ _ _ c.test.ensures.reply c.test.ensures.record _ (placed_ok _ _ _ c.map_err.ensures.cases _ c.in_ok-record.was) in
    let k = sym (ap₂ byte p.book p.place) ∙ sym c.kind-kind.ensures ∙ c.in-4.is in
    check_accepted _ _ _ c.loop-at.invariant c.loop-at-test.true p.reply k (omega arith)

pub returns-in-0 : goal.returns-in-0
returns-in-0 c =
    let k = known_kind _ c.in_ok-record.record.known in
    elim c.in-0-1.branch [
      | in-0-1 w ↦ absurd (omega (arith, k, c.kind-kind.ensures))
      | in_default+else-kind-lt4 w ↦ absurd (omega (arith, k, c.kind-kind.ensures))
    ]

pub add-requires : goal.add-requires
add-requires c =
    let p = tested _ _ _ _ c.test.ensures.reply c.test.ensures.record _ (placed_ok _ _ _ c.map_err.ensures.cases _ c.in_ok-record.was) in
    rw (p.book, p.place) (passed _ _ _ p.reply).kind

pub loop-at-preserved : goal.loop-at-preserved
loop-at-preserved c =
    let p = tested _ _ _ _ c.test.ensures.reply c.test.ensures.record _ (placed_ok _ _ _ c.map_err.ensures.cases _ c.in_ok-record.was) in
    rw (c.size.ensures, c.add.ensures, p.book, p.place)
    (more _ _ _ c.loop-at.invariant c.loop-at-test.true p.reply (λ k. omega (arith, c.kind-kind.ensures ∙ ap₂ byte p.book p.place)))

pub returns : goal.returns
returns c = rw c.at-2.ensures (check_out _ _ _ c.loop-at.invariant c.loop-at-test.false)
