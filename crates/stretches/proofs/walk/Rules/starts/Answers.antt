-- `Rules::starts` meets its contract, by its one test. Assumes nothing.
use native.Mathlib.Nat.{zero-add}
use Rattle.book.specs.Reading.{book_of}
use Rattle.stretches.proofs.Meets.{open_not, open_own}
use Rattle.stretches.proofs.walk.Rules.starts.Goals as goal

pub returns-then-left-self-eq0 : goal.returns-then-left-self-eq0
returns-then-left-self-eq0 c = open_not (book_of c.args.self.now.book.now) _ _ c.args.self.now.tests c.args.left c.args.rule c.requires (rw zero-add at c.if-left-self-eq0.true)

pub returns : goal.returns
returns c = open_own (book_of c.args.self.now.book.now) _ _ c.args.self.now.tests c.args.left c.args.rule c.requires (rw zero-add at c.if-left-self-eq0.false)
