-- `put_rules` meets its contract: the lines of the rules below r are written. Assumes nothing.
use Rattle.std.proofs.Common.{◌≡◌}
use Rattle.book.specs.Reading.{book_of}
use Rattle.lines.specs.Coming.{bytes}
use Rattle.lines.proofs.Written.{Lined}
use Rattle.lines.proofs.writing.put_rules.Given as goal

abbrev pub invariant-loop-r : goal.invariant-loop-r
invariant-loop-r l =
    Lined (book_of (bytes l.end.start)) l.end.set l.end.right l.end.start.at l.end.at l.d l.initial.to.lines.now l.to.lines.now l.initial.to.at l.to.at l.r
    × (l.to.lines.ghost_name ≡ l.initial.to.lines.ghost_name)
