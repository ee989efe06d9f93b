-- `count` meets its contract: n counts the starts before those that are left. Assumes nothing.
use Rattle.std.proofs.Common.{Bor, ap, ◌∙◌, arith}
use Rattle.book.specs.Reading.{book_of}
use Rattle.stretches.specs.declared.pass.Pass.{Pass}
use Rattle.lines.specs.declared.ends.Starts.{Starts}
use Rattle.lines.proofs.Tallies.{total_start, total_low, total_turn, total_end, account_most}
use Rattle.lines.proofs.count.Goals as goal

pub loop-start-init : goal.loop-start-init
loop-start-init c =
    let made = c.into_iter-start-iterator.ensures.into_iter_gives in
    total_start _ _ (ap (λ (s : Starts). s.pass.now) made ∙ ap (λ (p : Bor Pass). p.now) c.of-start-items.ensures.same_pass)
    (ap (λ (s : Starts). s.at) made ∙ c.of-start-items.ensures.begin)

pub overflow_add-n : goal.overflow_add-n
overflow_add-n c =
    let p = c.args.pass.now in
    let low = total_low _ _ c.loop-start.n c.loop-start.invariant c.in-Some.start _ c.in-Some.ensures.steps c.start_count-n.result c.start_count-n.ensures in
    omega (arith, low, account_most (book_of p.walk.outline.states.book.now) p.walk.outlined.tests.sound p.walk.tape.now p.ready.tape_fits)

pub loop-start-preserved : goal.loop-start-preserved
loop-start-preserved c = total_turn _ _ c.loop-start.n c.loop-start.invariant c.in-Some.start _ c.in-Some.ensures.steps c.start_count-n.result c.start_count-n.ensures

pub returns : goal.returns
returns c = total_end _ _ c.loop-start.n c.loop-start.invariant c.in-None.ensures.steps
