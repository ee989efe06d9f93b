-- `stepping::hop_of` meets its contract: the bit of the arc's first state, put out where the symbol is below or above the arc's, and moved
-- to the second. Assumes nothing.
use mathlib.Core.Path.{refl, ◌∙◌}
use borrow.Author.Tests.{le-leb, lt-leb}
use Rattle.book.specs.Reading.{arc_at}
use Rattle.sets.proofs.Sweep.{hop_bits}
use Rattle.sets.proofs.stepping.hop_of.Goals as goal
use Rattle.sets.proofs.stepping.hop_of.Goals.{then-symbol-book, else-symbol-book, then-book-at, else-book-at}

pub returns : goal.returns
returns c =
    let x = arc_at c.args.book.now c.args.at in
    hop_bits x c.args.set c.args.symbol _ c.if-symbol-book.bit c.if-book-at.bit c.requires.from_at_bound.1 refl
    (elim c.if-symbol-book.branch [
      | then-symbol-book w ↦ w.bit-is ∙ simp (lt-leb _ _ w.if-symbol-book.true)
      | else-symbol-book w ↦ w.bit-is ∙ simp (le-leb _ _ w.if-symbol-book.false)
    ])
    (elim c.if-book-at.branch [
      | then-book-at w ↦ w.bit-is ∙ simp (lt-leb _ _ w.if-book-at.true)
      | else-book-at w ↦ w.bit-is ∙ simp (le-leb _ _ w.if-book-at.false)
    ])
