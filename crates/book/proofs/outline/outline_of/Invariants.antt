-- `outline::outline_of` meets its contract: one walk over the records of an accepted book, with the outline as far as it has come (`Outlining`).
-- Assumes nothing.
use mathlib.Core.Path.{◌≡◌}
use Rattle.book.proofs.Outlining.{Outlining}
use Rattle.book.proofs.outline.outline_of.Given as goal

abbrev pub invariant-loop-record : goal.invariant-loop-record
invariant-loop-record l =
    (l.record-iterator.book.now ≡ l.s) × Outlining l.s l.record-iterator.at l.rules l.states l.places l.masks
