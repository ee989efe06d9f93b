-- `Walk::taken_at` meets its contract: the set is the pruned one at j, the end and the rule are those of the last candidate met so far, and each
-- step remembered is a step. Assumes nothing.
use Rattle.std.proofs.Common.{◌<◌, IfSome}
use Rattle.book.specs.Format.{most_rules}
use Rattle.book.specs.Reading.{book_of}
use Rattle.stretches.specs.Ready.{Remembers}
use Rattle.stretches.specs.Position.{end_of, rule_in}
use Rattle.stretches.proofs.Scans.{Scanned}
use Rattle.stretches.proofs.walk.Walk.taken_at.Given as goal

abbrev pub invariant-loop-j : goal.invariant-loop-j
invariant-loop-j l =
    let b = book_of l.self.outline.states.book.now in
    Scanned b l.self.tape.now l.from l.j l.set (end_of l.from l.taken) (rule_in l.taken) × IfSome l.taken (λ t. t.rule < most_rules) × Remembers b l.steps
