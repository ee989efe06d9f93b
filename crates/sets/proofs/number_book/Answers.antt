-- `number_book` meets its contract: arrays of zeros are what the outline of the book asks for, and what it ensures is what both sides are lent.
-- Assumes nothing.
use mathlib.Core.Path.{sym}
use Rattle.book.proofs.Pad.{pad_nil}
use Rattle.book.proofs.Placing.{placed}
use Rattle.sets.proofs.number_book.Goals as goal

pub outline_of-requires-clause-places_value : goal.outline_of-requires-clause-places_value
outline_of-requires-clause-places_value c = (sym (pad_nil _), sym (pad_nil _))

pub new-outline-requires-clause-placed : goal.new-outline-requires-clause-placed
new-outline-requires-clause-placed c = placed _ _ c.requires.book_value c.outline_of.ensures.places_after
