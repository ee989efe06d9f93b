use Rattle.att.proofs.Filling.{five}
use Rattle.att.proofs.part.put_arc.Goals as goal

pub returns : goal.returns
returns c = five c.args.out.now c.args.at 3 c.args.from c.args.symbol c.args.symbol c.args.to
