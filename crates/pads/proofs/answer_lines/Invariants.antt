-- The text is the same one, and each turn leaves less of the chunk.
use Rattle.std.proofs.Common.{◌≡◌, length}
use Rattle.pads.proofs.answer_lines.Given as goal

abbrev pub invariant-loop-end : goal.invariant-loop-end
invariant-loop-end g l = record {
  same : (l.text.bytes.ghost_name ≡ l.fn.text.bytes.ghost_name) × (l.text.rt ≡ l.fn.text.rt);
  same_length : length l.text.bytes.now ≡ length l.fn.text.bytes.now;
}

abbrev pub decreases-loop-end : goal.decreases-loop-end
decreases-loop-end g l = length l.rest
