-- `deciding_at` meets its contract: the stretch taken last goes on, or what is taken here decides. Assumes nothing.
use Rattle.std.proofs.Common.{sym, ap, ◌∙◌, ◌≤◌, Option, arith}
use Rattle.stretches.specs.Position.{no_rule}
use Rattle.lines.specs.Coming.{rules_for, tape_of}
use Rattle.lines.specs.Lines.{deciding_at, decided}
use Rattle.lines.specs.declared.writing.Deciding.{Deciding}
use Rattle.lines.proofs.Listings.{deciding_in, deciding_new}
use Rattle.lines.proofs.writing.deciding_at.Goals as goal
use Rattle.lines.proofs.writing.deciding_at.Goals.{in-Some+else-start-d, in_default}

pub returns-then-start-d-clause-value : goal.returns-then-start-d-clause-value
returns-then-start-d-clause-value c =
    let s = c.args.start.now in
    deciding_in (rules_for s) (tape_of s) s.at c.in-Some.d (omega arith)
    ∙ ap (λ (o : Option Deciding). deciding_at (rules_for s) (tape_of s) s.at (decided s.at o)) (sym c.in-Some.is)

pub returns-in_err-taken-clause-value : goal.returns-in_err-taken-clause-value
returns-in_err-taken-clause-value c =
    let s = c.args.start.now in
    let free : (decided s.at c.args.last).end ≤ s.at = elim c.match-last.branch [
      | in-Some+else-start-d w ↦ rw w.in-Some.is (omega arith)
      | in_default w ↦ rw w.in_default.is (omega arith)
    ] in
    ap (decided s.at) c.from_residual.ensures
    ∙ deciding_new (rules_for s) (tape_of s) s.at (decided s.at c.args.last) s.at no_rule free c.in_err-taken.ensures.taken_here

pub returns-clause-value : goal.returns-clause-value
returns-clause-value c =
    let s = c.args.start.now in
    let free : (decided s.at c.args.last).end ≤ s.at = elim c.match-last.branch [
      | in-Some+else-start-d w ↦ rw w.in-Some.is (omega arith)
      | in_default w ↦ rw w.in_default.is (omega arith)
    ] in
    deciding_new (rules_for s) (tape_of s) s.at (decided s.at c.args.last) c.in_ok-taken.taken.end c.in_ok-taken.taken.rule free c.in_ok-taken.ensures.taken_here
