-- `lines_at` meets its contract: the lines of the ends before those that are left are written. Assumes nothing.
use Rattle.std.proofs.Common.{ap, refl, ◌∙◌, ◌≤◌, arith}
use Rattle.stretches.specs.Buffers.{longest_tape}
use Rattle.lines.specs.declared.ends.Ends.{Ends}
use Rattle.lines.proofs.Written.{decides_up, listed_start, listed_room, listed_turn, listed_end}
use Rattle.lines.proofs.writing.lines_at.Goals as goal

pub loop-end-init : goal.loop-end-init
loop-end-init c =
    let made = c.into_iter-end-iterator.ensures.into_iter_gives in (
      listed_start _ _ c.args.d _ _ (ap (λ (e : Ends). e.start) made ∙ c.ends-end-items.ensures.same_start) (ap (λ (e : Ends). e.at) made ∙ c.ends-end-items.ensures.begin)
          c.requires.room,
      refl,
    )

pub put_rules-requires : goal.put_rules-requires
put_rules-requires c =
    let s = c.args.start.now in
    let f : s.at ≤ longest_tape = omega (arith, s.within, s.pass.now.ready.tape_fits) in
    record {
      decides = decides_up s.at longest_tape c.args.d f c.requires.decides;
      room = listed_room _ _ _ _ _ _ _ c.loop-end.invariant.0 c.in-Some.end _ c.in-Some.ensures.steps;
    }

pub loop-end-preserved : goal.loop-end-preserved
loop-end-preserved c = (
  listed_turn _ _ _ _ _ _ _ c.loop-end.invariant.0 c.in-Some.end _ c.in-Some.ensures.steps _ _ c.put_rules.ensures.put,
  c.put_rules.ensures.same_buffer ∙ c.loop-end.invariant.1,
)

pub returns : goal.returns
returns c = record { put = listed_end _ _ _ _ _ _ _ c.loop-end.invariant.0 c.in-None.ensures.steps; same_buffer = c.loop-end.invariant.1 }
