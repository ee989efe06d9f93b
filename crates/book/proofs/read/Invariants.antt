-- `read` meets its contract: at each record, what the definition makes of the records from there on is what it makes of the whole book
-- (`Progress`), so each way out is one law of it. Assumes nothing.
use Prim.Native.Nat.{◌-◌}
use lib.ListN.{length}
use Rattle.book.proofs.Progress.{Progress}
use Rattle.book.proofs.read.Given as goal

abbrev pub invariant-loop-at : goal.invariant-loop-at
invariant-loop-at l = Progress l.book l.at l.scan

abbrev pub decreases-loop-at : goal.decreases-loop-at
decreases-loop-at l = length l.book - l.at
