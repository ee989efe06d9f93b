-- `Record::new` meets its contract: its tests in their order, by the branches taken and left. Assumes nothing.
use Prim.Native.Nat.{◌≤◌, ◌<◌, ◌+◌}
use lib.ListN.{length}
use borrow.Author.Tests.{eq-eqb, ne_eqb, le-leb, lt-leb, lt-ltb, le-ltb}
use native.Mathlib.Omega.{arith}
use Rattle.book.specs.Scanning.{whole_reply}
use Rattle.book.proofs.record.Record.new.Goals as goal

pub returns-then-book-at-clause-reply : goal.returns-then-book-at-clause-reply
unfolding whole_reply
returns-then-book-at-clause-reply c = simp (le-leb _ _ c.if-book-at.true)

pub returns-then-size-eq0-clause-reply : goal.returns-then-size-eq0-clause-reply
unfolding whole_reply
returns-then-size-eq0-clause-reply c = simp (lt-leb _ _ c.if-book-at.false, ← c.record_size-size.ensures, eq-eqb _ _ c.if-size-eq0.true)

pub returns-then-book-at-2-clause-reply : goal.returns-then-book-at-2-clause-reply
unfolding whole_reply
returns-then-book-at-2-clause-reply c =
    let h : length c.args.book.now < c.args.at + c.record_size-size.result = omega arith in
    simp (lt-leb _ _ c.if-book-at.false, ← c.record_size-size.ensures, ne_eqb _ _ c.if-size-eq0.false, lt-ltb _ _ h)

pub returns-clause-reply : goal.returns-clause-reply
unfolding whole_reply
returns-clause-reply c =
    let h : c.args.at + c.record_size-size.result ≤ length c.args.book.now = omega arith in
    simp (lt-leb _ _ c.if-book-at.false, ← c.record_size-size.ensures, ne_eqb _ _ c.if-size-eq0.false, le-ltb _ _ h)
