-- `workspace::number_side` meets its contract: cleared rows and sets are what the numbering asks for, whatever stood there before. Assumes
-- nothing.
use Rattle.sets.proofs.Pad.{cleared_whole}
use Rattle.sets.proofs.workspace.number_side.Goals as goal

pub number_sets-requires : goal.number_sets-requires
number_sets-requires c =
    record {
      rows = cleared_whole _ c.args.rows.now _ c.requires.0 (c.fill.ensures.after (λ y e. e));
      sets = cleared_whole _ c.args.sets.now _ c.requires.1 (c.fill-2.ensures.after (λ y e. e));
    }
