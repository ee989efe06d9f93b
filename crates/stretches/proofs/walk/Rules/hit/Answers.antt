-- `Rules::hit` meets its contract: the first rule that passes among those from here on is the first of all. Assumes nothing.
use Rattle.std.proofs.Common.{sym, ap, ◌∙◌, arith}
use Rattle.book.specs.Reading.{book_of}
use Rattle.stretches.specs.Position.{up_to}
use Rattle.stretches.proofs.Meets.{miss_all, seek_start, seek_found, seek_turn, seek_end}
use Rattle.stretches.proofs.Scans.{up_to_low}
use Rattle.stretches.proofs.walk.Rules.hit.Goals as goal

pub returns-then-set-self-eq0-clause-lowest : goal.returns-then-set-self-eq0-clause-lowest
returns-then-set-self-eq0-clause-lowest c = ap (up_to c.args.end) (miss_all (book_of c.args.self.now.book.now) _ _ c.args.self.now.tests c.args.set c.args.right c.if-set-self-eq0.true)

pub loop-rule-init : goal.loop-rule-init
loop-rule-init c = seek_start (book_of c.args.self.now.book.now) c.args.set c.args.right _ c.args.self.now.tests.many

pub returns-then-hits-clause-lowest : goal.returns-then-hits-clause-lowest
returns-then-hits-clause-lowest c =
    let t = c.args.self.now.tests in
    up_to_low c.args.end _ (omega (arith, t.many, t.sound.rules, c.loop-rule-test.true))
    ∙ ap (up_to c.args.end) (seek_found (book_of c.args.self.now.book.now) c.args.set c.args.right _ c.loop-rule.rule c.loop-rule.invariant c.loop-rule-test.true (sym c.hits.ensures ∙ c.if-hits.true))

pub loop-rule-preserved : goal.loop-rule-preserved
loop-rule-preserved c =
    seek_turn (book_of c.args.self.now.book.now) c.args.set c.args.right _ c.loop-rule.rule c.loop-rule.invariant c.loop-rule-test.true (sym c.hits.ensures ∙ c.if-hits.false)

pub returns-clause-lowest : goal.returns-clause-lowest
returns-clause-lowest c = ap (up_to c.args.end) (seek_end (book_of c.args.self.now.book.now) c.args.set c.args.right _ c.loop-rule.rule c.loop-rule.invariant (omega arith))
