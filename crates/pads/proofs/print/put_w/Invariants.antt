-- What is left of the line, put now, makes the whole line; the text is the same one.
use Rattle.std.proofs.Common.{◌≡◌, [], ◌∷◌, ◌++◌, length, drop, map}
use Rattle.text.specs.Text.{holds, put_all}
use Rattle.pads.specs.Digits.{digit_of}
use Rattle.pads.specs.Lines.{w_line}
use Rattle.pads.proofs.print.put_w.Given as goal

abbrev pub invariant-loop-s : goal.invariant-loop-s
invariant-loop-s g l = record {
  line : put_all (holds l.text.bytes.now l.text.used) (map digit_of (drop l.s-index l.out) ++ (10 ∷ [])) ≡ put_all (holds l.fn.text.bytes.now l.fn.text.used) (w_line l.taken l.out);
  same : (l.text.bytes.ghost_name ≡ l.fn.text.bytes.ghost_name) × (l.text.rt ≡ l.fn.text.rt);
  same_length : length l.text.bytes.now ≡ length l.fn.text.bytes.now;
}
