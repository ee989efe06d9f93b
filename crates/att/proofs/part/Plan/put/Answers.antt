use Rattle.std.proofs.Common.{arith, ◌∙◌}
use Rattle.att.proofs.Planning.{plan_clear, ready, room_states, whole_filled}
use Rattle.att.proofs.Surveying.{line_on}
use Rattle.att.proofs.Putting.{put_start, put_fits, put_more, put_reads, put_end}
use Rattle.att.proofs.part.Plan.put.Goals as goal

pub put_states-requires : goal.put_states-requires
put_states-requires c =
    let k = plan_clear c.args.self.now _ c.requires in
    (rw c.count-n.ensures k.few, rw c.count-n.ensures (room_states _ _ c.args.self.now.part _ _ k))

pub loop-line-init : goal.loop-line-init
loop-line-init c =
    let k = plan_clear c.args.self.now _ c.requires in
    let r = ready _ _ _ _ _ k _ (rw c.count-n.ensures at c.put_states.ensures) in
    record {
      same = c.new-lines.ensures.text;
      mid = rw c.new-lines.ensures.at (put_start _ _ _ _ _ r _ (rw c.count-n.ensures at c.after_states-used.ensures));
    }

pub unwrap-requires : goal.unwrap-requires
unwrap-requires c =
    let k = plan_clear c.args.self.now _ c.requires in
    let r = ready _ _ _ _ _ k _ (rw c.count-n.ensures at c.put_states.ensures) in
    put_reads _ _ _ _ _ r _ _ _ c.loop-line.invariant.mid _ _ (rw c.loop-line.invariant.same at c.advance.ensures.line)

pub put_line-used-requires : goal.put_line-used-requires
put_line-used-requires c =
    let k = plan_clear c.args.self.now _ c.requires in
    let r = ready _ _ _ _ _ k _ (rw c.count-n.ensures at c.put_states.ensures) in
    let e = rw (c.in-Some.ensures, c.loop-line.invariant.same) at c.advance.ensures.line in
    put_fits _ _ _ _ _ r _ _ _ c.loop-line.invariant.mid _ _ e

pub loop-line-smaller : goal.loop-line-smaller
loop-line-smaller c =
    let e = rw (c.in-Some.ensures, c.loop-line.invariant.same) at c.advance.ensures.line in
    let h = line_on _ _ _ _ e in
    omega arith

pub loop-line-preserved : goal.loop-line-preserved
loop-line-preserved c =
    let k = plan_clear c.args.self.now _ c.requires in
    let r = ready _ _ _ _ _ k _ (rw c.count-n.ensures at c.put_states.ensures) in
    let e = rw (c.in-Some.ensures, c.loop-line.invariant.same) at c.advance.ensures.line in
    record {
      same = c.advance.ensures.text ∙ c.loop-line.invariant.same;
      mid = put_more _ _ _ _ _ r _ _ _ c.loop-line.invariant.mid _ _ e _ _ c.put_line-used.ensures;
    }

pub returns : goal.returns
returns c =
    let k = plan_clear c.args.self.now _ c.requires in
    let r = ready _ _ _ _ _ k _ (rw c.count-n.ensures at c.put_states.ensures) in
    let e = rw (c.unwrap.ensures, c.in_default.is, c.loop-line.invariant.same) at c.advance.ensures.line in
    whole_filled _ _ _ _ _ k _ _ (rw c.count-n.ensures at c.put_states.ensures) (put_end _ _ _ _ _ r _ _ _ c.loop-line.invariant.mid e)
