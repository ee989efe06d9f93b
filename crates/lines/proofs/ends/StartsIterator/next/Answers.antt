-- `next` of the starts meets its contract: the number of the left set goes along with the position. Assumes nothing.
use Rattle.std.proofs.Common.{arith}
use Rattle.stretches.proofs.Lefts.{left_turn}
use Rattle.lines.proofs.ends.StartsIterator.next.Goals as goal
use Rattle.lines.proofs.ends.StartsIterator.next.Goals.{then-self-walk, else-self-walk}

pub invariant_of-self : goal.invariant_of-self
invariant_of-self c =
    let s = c.args.self.now in
    let p = s.pass.now in
    let was = s.numbered c.if-walk-self.false in
    elim c.if-self-walk.branch [
      | then-self-walk w ↦
          let l = left_turn p.walk.outline.states.book.now p.walk.tape.now p.rows.now p.walk.sets.now p.walk.scratch.now p.ready
          s.number s.at w.left_entry-self.result w.if-self-walk.true (record { below = was.below; is = was.is }) w.left_entry-self.ensures in
          rw w.self-is (record { reached = omega arith; numbered = λ h. record { below = l.below; is = l.is } })
      | else-self-walk w ↦ rw w.self-is (record { reached = omega arith; numbered = λ h. absurd (omega arith) })
    ]
