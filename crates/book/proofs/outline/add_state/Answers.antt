-- `outline::add_state` meets its contract: one line of the table after the other. Assumes nothing.
use borrow.Author.Rules.{rules}
use mathlib.Core.Path.{◌∙◌, sym}
use native.Mathlib.Omega.{arith}
use Rattle.book.proofs.Bits.{worth}
use Rattle.book.proofs.Laws.{size_state}
use Rattle.book.proofs.Masking.{hit_none, line_here, line_other, hit_all}
use Rattle.book.proofs.outline.add_state.Goals as goal
use Rattle.book.proofs.outline.add_state.Goals.{then-passes, else-passes}

pub byte-of-requires : goal.byte-of-requires
byte-of-requires c = omega (arith, size_state c.requires.kind)

pub byte-flags-requires : goal.byte-flags-requires
byte-flags-requires c = omega (arith, size_state c.requires.kind)

pub loop-part-init : goal.loop-part-init
loop-part-init c = hit_none _ _ _ _

pub loop-part-preserved : goal.loop-part-preserved
loop-part-preserved c =
    elim c.if-passes.branch [
      | then-passes w ↦
          rw w.masks-is (line_here _ _ _ _ _ _ _ _ c.loop-part.invariant c.loop-part-test.true (sym c.passes.ensures ∙ w.if-passes.true) (search rules))
      | else-passes w ↦ rw w.masks-is (line_other _ _ _ _ _ _ _ _ c.loop-part.invariant c.loop-part-test.true (sym c.passes.ensures ∙ w.if-passes.false))
    ]

pub returns : goal.returns
returns c = hit_all _ _ _ _ _ _ _ _ _ _ c.byte-of.ensures c.byte-flags.ensures (worth c.args.k (search rules)) (omega arith) c.loop-part.invariant
