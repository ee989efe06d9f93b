-- `Walk::taken_at` meets its contract: the set is the pruned one at j, the end and the rule are those of the last candidate met so far, and each
-- step remembered is a step. Assumes nothing.
use Rattle.std.proofs.Common.{refl, sym, ◌∙◌, ◌+◌, arith}
use Rattle.stretches.proofs.Scans.{walk_start, walk_hit, walk_miss, walk_dead, walk_end, hit_some, hit_none, start_end, start_rule}
use Rattle.stretches.proofs.Remembering.{step_pruned}
use Rattle.stretches.proofs.walk.Walk.taken_at.Goals as goal
use Rattle.stretches.proofs.walk.Walk.taken_at.Goals.{in-Some, in_default}

pub loop-j-init : goal.loop-j-init
loop-j-init c = (
  rw (c.hit-taken.ensures.lowest, start_end, start_rule)
      (walk_start _ _ _ _ c.args.self.now.right_sets c.args.from c.args.left c.right_set-here.result c.first_set-set.result _
      c.requires.from_in_bounds.0 c.requires.from_in_bounds.1 c.right_set-here.ensures c.first_set-set.ensures refl),
  c.hit-taken.ensures.some_rule,
  c.requires.remembers,
)

pub returns-then-set-eq0-clause-taken_here : goal.returns-then-set-eq0-clause-taken_here
returns-then-set-eq0-clause-taken_here c = walk_dead _ _ _ _ c.args.self.now.right_sets c.args.from c.loop-j.j c.loop-j.set _ _ c.loop-j.invariant.0 c.if-set-eq0.true

pub loop-j-preserved : goal.loop-j-preserved
loop-j-preserved c =
    let X = step_pruned _ c.args.self.now.right_sets.accepted c.loop-j.set _ c.right_set-right.result c.step.result c.step.ensures.value in
    let was = c.loop-j.invariant.0 in
    elim c.match-hit.branch [
      | in-Some w ↦
          let h = hit_some w.in-Some.longer (c.loop-j.j + 1) _ (sym w.in-Some.is ∙ c.hit.ensures.lowest) in
          rw w.taken-is (
            rw h.0 (walk_hit _ _ _ _ c.args.self.now.right_sets c.args.from c.loop-j.j c.loop-j.set _ _ was c.loop-j-test.true c.right_set-right.result _ _ c.right_set-right.ensures X refl h.1),
            (rw w.in-Some.is at c.hit.ensures.some_rule),
            c.step.ensures.remembers,
          )
      | in_default w ↦
          rw w.taken-is (
            walk_miss _ _ _ _ c.args.self.now.right_sets c.args.from c.loop-j.j c.loop-j.set _ _ was c.loop-j-test.true c.right_set-right.result _ _ c.right_set-right.ensures X refl
                (hit_none (c.loop-j.j + 1) _ (sym w.in_default.is ∙ c.hit.ensures.lowest)),
            c.loop-j.invariant.1,
            c.step.ensures.remembers,
          )
    ]

pub returns-clause-taken_here : goal.returns-clause-taken_here
returns-clause-taken_here c = walk_end _ _ _ _ c.args.self.now.right_sets c.args.from c.loop-j.j c.loop-j.set _ _ c.loop-j.invariant.0 (omega arith)
