use Rattle.std.proofs.Common.{◌∙◌, ap}
use Rattle.std.specs.Option.{is_some}
use Rattle.att.proofs.Names.{number_of_in}
use Rattle.att.proofs.part.Plan.number_of.Goals as goal

pub unwrap-requires : goal.unwrap-requires
unwrap-requires c = ap is_some (c.number_of.ensures ∙ number_of_in _ _ c.requires)

pub returns : goal.returns
returns c = let e = c.number_of.ensures ∙ number_of_in _ _ c.requires in let u = c.unwrap.ensures in cc
