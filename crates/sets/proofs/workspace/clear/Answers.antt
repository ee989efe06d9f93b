-- `workspace::clear` meets its contract: each part is lent and comes back all 0; what lies past it stays. Assumes nothing.
use mathlib.Core.List.{List, ◌++◌}
use mathlib.Core.Path.{ap}
use Prim.Native.Nat.{ℕ}
use lib.ListN.{drop}
use Rattle.sets.specs.Workspace.{row_bytes, set_words}
use Rattle.sets.proofs.Pad.{cleared}
use Rattle.sets.proofs.workspace.clear.Goals as goal

pub returns-clause-rows_after : goal.returns-clause-rows_after
returns-clause-rows_after c = ap (λ (l : List ℕ). l ++ drop row_bytes c.args.rows.now) (cleared row_bytes c.args.rows.now _ c.requires.0 (c.fill.ensures.after (λ y e. e)))

pub returns-clause-sets_after : goal.returns-clause-sets_after
returns-clause-sets_after c = ap (λ (l : List ℕ). l ++ drop set_words c.args.sets.now) (cleared set_words c.args.sets.now _ c.requires.1 (c.fill-2.ensures.after (λ y e. e)))
