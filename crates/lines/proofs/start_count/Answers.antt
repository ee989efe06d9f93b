-- `start_count` meets its contract: n counts the ends before those that are left. Assumes nothing.
use Rattle.std.proofs.Common.{ap, ◌∙◌, arith}
use Rattle.book.specs.Reading.{book_of}
use Rattle.lines.specs.Coming.{bytes, tape_of}
use Rattle.lines.specs.declared.ends.Ends.{Ends}
use Rattle.lines.proofs.Tallies.{counting_start, counting_low, counting_turn, counting_end, start_most}
use Rattle.lines.proofs.start_count.Goals as goal

pub loop-end-init : goal.loop-end-init
loop-end-init c =
    let made = c.into_iter-end-iterator.ensures.into_iter_gives in
    counting_start _ _ (ap (λ (e : Ends). e.start) made ∙ c.ends-end-items.ensures.same_start) (ap (λ (e : Ends). e.at) made ∙ c.ends-end-items.ensures.begin)

pub overflow_add-n : goal.overflow_add-n
overflow_add-n c =
    let s = c.args.start.now in
    let p = s.pass.now in
    let low = counting_low _ _ c.loop-end.n c.loop-end.invariant c.in-Some.end _ c.in-Some.ensures.steps c.hit_count-n.result c.hit_count-n.ensures in
    omega (arith, low, start_most (book_of (bytes s)) p.walk.outlined.tests.sound (tape_of s) p.ready.tape_fits s.at)

pub loop-end-preserved : goal.loop-end-preserved
loop-end-preserved c = counting_turn _ _ c.loop-end.n c.loop-end.invariant c.in-Some.end _ c.in-Some.ensures.steps c.hit_count-n.result c.hit_count-n.ensures

pub returns : goal.returns
returns c = counting_end _ _ c.loop-end.n c.loop-end.invariant c.in-None.ensures.steps
