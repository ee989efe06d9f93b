-- A step on all symbols: where the set holds the arc's source, its bit is spread over its symbols; else nothing is added. Assumes nothing.
use Rattle.sets.proofs.Rows.{add_held, add_free}
use Rattle.sets.proofs.stepping.RowStep.add.Goals as goal

pub returns-then-self-source-ne0 : goal.returns-then-self-source-ne0
returns-then-self-source-ne0 c = add_held _ _ _ _ _ _ _ _ c.source.ensures c.target.ensures c.requires.target c.if-self-source-ne0.true c.spread.ensures

pub returns-else-self-source-ne0 : goal.returns-else-self-source-ne0
returns-else-self-source-ne0 c = add_free _ _ _ _ _ 0 _ c.source.ensures c.if-self-source-ne0.false
