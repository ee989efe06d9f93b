-- `Rules::hits` meets its contract: a set meets a mask exactly where some state of the book is in both. Assumes nothing.
use Rattle.book.specs.Reading.{book_of}
use Rattle.stretches.proofs.Meets.{miss_focus, miss_right, hit_both}
use Rattle.stretches.proofs.walk.Rules.hits.Goals as goal

pub returns-then-set-self-eq0 : goal.returns-then-set-self-eq0
returns-then-set-self-eq0 c = miss_focus (book_of c.args.self.now.book.now) _ _ c.args.self.now.tests c.args.set c.args.right c.args.rule c.requires c.if-set-self-eq0.true

pub returns-then-right-self-eq0 : goal.returns-then-right-self-eq0
returns-then-right-self-eq0 c = miss_right (book_of c.args.self.now.book.now) _ _ c.args.self.now.tests c.args.set c.args.right c.args.rule c.requires c.if-right-self-eq0.true

pub returns : goal.returns
returns c = hit_both (book_of c.args.self.now.book.now) _ _ c.args.self.now.tests c.args.set c.args.right c.args.rule c.requires c.if-set-self-eq0.false c.if-right-self-eq0.false
