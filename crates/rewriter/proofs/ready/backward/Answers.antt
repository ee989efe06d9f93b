-- `rewriter::ready::backward` meets its contract: from i on the numbers stand (`Filled`). Assumes nothing.
use borrow.Author.Rules.{rules}
use Rattle.rewriter.proofs.Backwards.{filled_start, filled_turn, filled_end}
use lib.ListN.{length, length-set, set}
use native.Mathlib.Omega.{arith}
use Prim.Native.Nat.{◌-◌}
use Rattle.rewriter.proofs.ready.backward.Goals as goal

pub loop-i-init : goal.loop-i-init
loop-i-init c = filled_start c.args.rows.now c.args.tape.now c.args.scratch.now (omega arith)

pub loop-i-preserved : goal.loop-i-preserved
loop-i-preserved c =
    filled_turn c.args.rows.now c.args.tape.now (set c.args.scratch.now (length c.args.tape.now) 0) c.loop-i.scratch c.loop-i.i (c.loop-i.i - 1) c.loop-i.number c.right_entry-number.result
    (omega arith) (omega arith) (simp length-set (omega arith)) c.right_entry-number.ensures (search rules) c.loop-i.invariant

pub returns : goal.returns
returns c =
    filled_end c.args.rows.now c.args.tape.now c.args.scratch.now c.loop-i.scratch c.loop-i.i c.loop-i.number (omega arith)
    c.loop-i.invariant
