-- `record_size` meets its contract: each arm rewrites `record_size` with its kind. Assumes nothing.
use borrow.Author.Tests.{ne_eqb}
use Rattle.book.specs.Format.{record_size}
use Rattle.book.proofs.record_size.Goals as goal

pub returns-in-1 : goal.returns-in-1
unfolding record_size
returns-in-1 c = simp c.in-1.is

pub returns-in-2 : goal.returns-in-2
unfolding record_size
returns-in-2 c = simp c.in-2.is

pub returns-in-3 : goal.returns-in-3
unfolding record_size
returns-in-3 c = simp c.in-3.is

pub returns-in-4 : goal.returns-in-4
unfolding record_size
returns-in-4 c = simp c.in-4.is

pub returns-in-0 : goal.returns-in-0
unfolding record_size
returns-in-0 c = simp c.in-0.in-0-own.keys5

pub returns-in-0-2 : goal.returns-in-0-2
unfolding record_size
returns-in-0-2 c = simp (ne_eqb _ _ c.in-0.in-0-own.rest.0.0.0.0.1, ne_eqb _ _ c.in-0.in-0-own.rest.0.0.0.1, ne_eqb _ _ c.in-0.in-0-own.rest.0.0.1, ne_eqb _ _ c.in-0.in-0-own.rest.0.1)
