-- `stepping::spread` meets its contract: what is done and what is left of the symbols make the whole. Assumes nothing.
use native.Mathlib.Omega.{arith}
use Rattle.sets.proofs.Rows.{spread_turn, spread_end}
use Rattle.sets.proofs.stepping.spread.Goals as goal

pub loop-symbol-preserved : goal.loop-symbol-preserved
loop-symbol-preserved c = spread_turn _ _ _ _ _ _ c.loop-symbol.invariant (omega arith) c.requires.high_lt_symbol_count

pub returns : goal.returns
returns c = spread_end _ _ _ _ _ _ c.loop-symbol.invariant (omega arith)
