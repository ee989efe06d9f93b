-- `next` of the ends meets its contract: where no state is left no candidate ends later, and at the tape's end none is. Assumes nothing.
use Rattle.lines.proofs.Onward.{ends_turn, ends_last, ends_dead}
use Rattle.lines.proofs.ends.EndsIterator.next.Goals as goal
use Rattle.lines.proofs.ends.EndsIterator.next.Goals.{then-self-walk, else-self-walk}

pub returns-then-self-eq0-clause-steps : goal.returns-then-self-eq0-clause-steps
returns-then-self-eq0-clause-steps c =
    let s = c.args.self.now in
    ends_dead _ _ _ _ s.start.pass.now.walk.right_sets s.start.at s.at s.set s.right s.left c.if-self-eq0.true

pub invariant_of-self : goal.invariant_of-self
invariant_of-self c =
    let s = c.args.self.now in
    elim c.if-self-walk.branch [
      | then-self-walk w ↦
          rw w.self-is (record {
            left = ends_turn _ _ _ _ s.start.pass.now.walk.right_sets s.start.at s.at s.set s.right s.left w.if-self-walk.true w.right_set-self.result w.next_set-self.result
                w.right_set-self.ensures w.next_set-self.ensures;
          })
      | else-self-walk w ↦
          rw w.self-is (record { left = ends_last _ _ _ _ s.start.pass.now.walk.right_sets s.start.at s.at s.set s.right s.left w.if-self-walk.false })
    ]
