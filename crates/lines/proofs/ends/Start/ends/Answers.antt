-- `Start::ends` meets its contract: the walk begins at the start. Assumes nothing.
use Rattle.lines.proofs.Onward.{ends_start}
use Rattle.lines.proofs.ends.Start.ends.Goals as goal

pub invariant_of-result : goal.invariant_of-result
invariant_of-result c =
    let s = c.args.self.now in
    record {
      left = ends_start _ _ _ _ s.pass.now.walk.right_sets s.at s.left c.right_set-right.result c.first_set.result s.within s.set_there c.right_set-right.ensures c.first_set.ensures;
    }
