-- `symbol_fits` meets its contract: each answer rewrites its definition with the test that led to it. Assumes nothing.
use borrow.Author.Tests.{lt-ltb, le-ltb}
use Rattle.book.specs.Format.{symbol_fits}
use Rattle.book.proofs.symbol_fits.Goals as goal

pub returns-then-i-n : goal.returns-then-i-n
unfolding symbol_fits
returns-then-i-n c = simp (lt-ltb _ _ c.if-i-n.true)

pub returns-else-i-n : goal.returns-else-i-n
unfolding symbol_fits
returns-else-i-n c = simp (le-ltb _ _ c.if-i-n.false)
