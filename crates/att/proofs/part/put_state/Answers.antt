use Rattle.att.proofs.Filling.{three}
use Rattle.att.proofs.part.put_state.Goals as goal

pub returns : goal.returns
returns c = three c.args.out.now c.args.at 2 c.args.part c.args.flags
