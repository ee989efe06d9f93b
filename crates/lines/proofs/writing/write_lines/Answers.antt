-- `write_lines` meets its contract: the lines of the starts before those that are left are written. Assumes nothing.
use Rattle.std.proofs.Common.{Bor, rules, refl, sym, ap, subst, ◌∙◌}
use Rattle.book.specs.Reading.{book_of}
use Rattle.stretches.specs.Ready.{Remembers}
use Rattle.stretches.specs.declared.pass.Pass.{Pass}
use Rattle.lines.specs.declared.ends.Starts.{Starts}
use Rattle.lines.proofs.Listings.{same_pass, accounting_start, deciding_here, accounting_room, accounting_turn, accounting_none, accounting_end}
use Rattle.lines.proofs.writing.write_lines.Goals as goal

pub loop-start-init : goal.loop-start-init
loop-start-init c =
    let made = c.into_iter-start-iterator.ensures.into_iter_gives in (
      accounting_start _ _ _ (ap (λ (s : Starts). s.pass.now) made ∙ ap (λ (p : Bor Pass). p.now) c.of-start-items.ensures.same_pass)
          (ap (λ (s : Starts). s.at) made ∙ c.of-start-items.ensures.begin) c.requires,
      c.new-steps.ensures _,
      refl,
    )

pub deciding_at-last-requires : goal.deciding_at-last-requires
deciding_at-last-requires c =
    let same = same_pass _ _ _ _ _ _ c.loop-start.invariant.0 _ _ c.in-Some.ensures.steps in
    subst (λ (p : Pass). Remembers (book_of p.walk.outline.states.book.now) c.loop-start.steps) (sym same) c.loop-start.invariant.1

pub lines_at-requires : goal.lines_at-requires
lines_at-requires c =
    record {
      decides = deciding_here _ _ _ _ _ _ c.loop-start.invariant.0 _ _ c.in-Some.ensures.steps _ c.deciding_at-last.ensures.value c.in-Some-last.d c.in-Some-last.is;
      room = accounting_room _ _ _ _ _ _ c.loop-start.invariant.0 _ _ c.in-Some.ensures.steps _ c.deciding_at-last.ensures.value c.in-Some-last.d c.in-Some-last.is;
    }

pub loop-start-preserved-in-Some-last : goal.loop-start-preserved-in-Some-last
loop-start-preserved-in-Some-last c =
    let same = same_pass _ _ _ _ _ _ c.loop-start.invariant.0 _ _ c.in-Some.ensures.steps in (
      accounting_turn _ _ _ _ _ _ c.loop-start.invariant.0 _ _ c.in-Some.ensures.steps _ c.deciding_at-last.ensures.value c.in-Some-last.d c.in-Some-last.is
          _ _ c.lines_at.ensures.put,
      subst (λ (p : Pass). Remembers (book_of p.walk.outline.states.book.now) c.deciding_at-last.new.steps) same c.deciding_at-last.ensures.remembers,
      c.lines_at.ensures.same_buffer ∙ c.loop-start.invariant.2,
    )

pub loop-start-preserved : goal.loop-start-preserved
loop-start-preserved c =
    let same = same_pass _ _ _ _ _ _ c.loop-start.invariant.0 _ _ c.in-Some.ensures.steps in (
      accounting_none _ _ _ _ _ _ c.loop-start.invariant.0 _ _ c.in-Some.ensures.steps _ c.deciding_at-last.ensures.value c.in_default.is,
      subst (λ (p : Pass). Remembers (book_of p.walk.outline.states.book.now) c.deciding_at-last.new.steps) same c.deciding_at-last.ensures.remembers,
      c.loop-start.invariant.2,
    )

pub returns : goal.returns
returns c = let done = accounting_end _ _ _ _ _ _ c.loop-start.invariant.0 c.in-None.ensures.steps in search (rules, done)
