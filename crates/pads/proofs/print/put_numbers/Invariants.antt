-- What is left of the line, put now, makes the whole line; the text is the same one.
use Rattle.std.proofs.Common.{◌≡◌, length, drop}
use Rattle.text.specs.Text.{holds, put_all}
use Rattle.pads.specs.Lines.{numbers_line}
use Rattle.pads.proofs.print.put_numbers.Given as goal

abbrev pub invariant-loop-number : goal.invariant-loop-number
invariant-loop-number g l = record {
  line : put_all (holds l.text.bytes.now l.text.used) (numbers_line (drop l.number-index l.numbers)) ≡ put_all (holds l.fn.text.bytes.now l.fn.text.used) (numbers_line l.numbers);
  same : (l.text.bytes.ghost_name ≡ l.fn.text.bytes.ghost_name) × (l.text.rt ≡ l.fn.text.rt);
  same_length : length l.text.bytes.now ≡ length l.fn.text.bytes.now;
}
