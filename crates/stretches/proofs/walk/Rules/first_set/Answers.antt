-- `Rules::first_set` meets its contract: what the rules so far open is gathered. Assumes nothing.
use native.Mathlib.Omega.{arith}
use Rattle.book.specs.Reading.{book_of}
use Rattle.stretches.proofs.Meets.{none_first, open_start, open_turn, open_end}
use Rattle.stretches.proofs.walk.Rules.first_set.Goals as goal

pub returns-then-right-self-eq0 : goal.returns-then-right-self-eq0
returns-then-right-self-eq0 c = none_first (book_of c.args.self.now.book.now) _ _ c.args.self.now.tests c.args.left c.args.right c.if-right-self-eq0.true

pub loop-rule-init : goal.loop-rule-init
loop-rule-init c = open_start (book_of c.args.self.now.book.now) _ _ c.args.self.now.tests c.args.left

pub loop-rule-preserved : goal.loop-rule-preserved
loop-rule-preserved c = open_turn (book_of c.args.self.now.book.now) _ _ c.args.self.now.tests c.args.left c.loop-rule.rule c.loop-rule.out _ c.loop-rule.invariant c.starts-out.ensures

pub returns : goal.returns
returns c = open_end (book_of c.args.self.now.book.now) _ _ c.args.self.now.tests c.args.left c.args.right c.loop-rule.rule c.loop-rule.out c.loop-rule.invariant (omega arith)
