-- `outline::place_rules` meets its contract: a second walk over the records of an accepted book, with the array of the places as far as it has
-- come (`Placing`). Assumes nothing.
use mathlib.Core.Path.{◌≡◌}
use lib.ListN.{length}
use Rattle.book.specs.Format.{most_rules, rule_kind}
use Rattle.book.specs.Reading.{Book, book_of}
use Rattle.book.proofs.Walk.{Walk}
use Rattle.book.proofs.Placing.{Placing}
use Rattle.book.proofs.outline.place_rules.Given as goal

abbrev pub invariant-loop-record : goal.invariant-loop-record
invariant-loop-record l =
    (l.record-iterator.book.now ≡ l.s) × (b : Book) × Walk l.s l.record-iterator.at b (book_of l.s)
    × Placing rule_kind l.s most_rules l.record-iterator.at l.rules l.places (length b.words)
