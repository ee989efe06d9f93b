-- `outline::add_state` meets its contract: one line of the table after the other. Assumes nothing.
use lib.ListN.{take}
use Rattle.book.proofs.Masking.{Hit}
use Rattle.book.proofs.outline.add_state.Given as goal

abbrev pub invariant-loop-part : goal.invariant-loop-part
invariant-loop-part l = Hit l.of l.flags l.bit l.initial.masks (take l.part-index l.part-items) l.masks
