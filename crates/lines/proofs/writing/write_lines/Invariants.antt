-- `write_lines` meets its contract: the lines of the starts before those that are left are written. Assumes nothing.
use Rattle.std.proofs.Common.{◌≡◌}
use Rattle.book.specs.Reading.{book_of}
use Rattle.stretches.specs.Ready.{Remembers}
use Rattle.lines.proofs.Listings.{Accounting}
use Rattle.lines.proofs.writing.write_lines.Given as goal

abbrev pub invariant-loop-start : goal.invariant-loop-start
invariant-loop-start l =
    Accounting l.fn.pass l.start-iterator l.fn.lines l.to.lines.now l.to.at l.last × Remembers (book_of l.fn.pass.walk.outline.states.book.now) l.steps × (l.to.lines.ghost_name ≡ l.initial.to.lines.ghost_name)
