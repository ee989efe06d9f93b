-- A full tape keeps nothing more (Kept.antt).
use Rattle.std.proofs.Common.{sym, ◌∙◌, arith}
use Rattle.std.proofs.lemmas.Bool.{eqb-true}
use Rattle.pads.proofs.Kept.{full}
use Rattle.pads.proofs.keep.Goals as goal

pub returns-then-is_full : goal.returns-then-is_full
returns-then-is_full c =
    full _ _ _ _ _ c.loop-b.invariant.kept (omega arith) (eqb-true _ _ (sym c.is_full.ensures.value ∙ c.if-is_full.true))
