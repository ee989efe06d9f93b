-- The text is the same one.
use Rattle.std.proofs.Common.{◌≡◌, length}
use Rattle.pads.proofs.print.put_account.Given as goal

abbrev pub invariant-loop-words : goal.invariant-loop-words
invariant-loop-words g l = record {
  same : (l.text.bytes.ghost_name ≡ l.fn.text.bytes.ghost_name) × (l.text.rt ≡ l.fn.text.rt);
  same_length : length l.text.bytes.now ≡ length l.fn.text.bytes.now;
}
