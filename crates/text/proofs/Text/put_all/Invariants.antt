-- As far as the loop has come: the bytes up to there are put, and the text is the same one.
use Rattle.std.proofs.Common.{◌≡◌, ◌+◌, ◌<◌, length, take}
use Rattle.text.specs.Text.{holds, put_all}
use Rattle.text.proofs.Text.put_all.Given as goal

abbrev pub invariant-loop-b : goal.invariant-loop-b
invariant-loop-b g l = record {
  done : holds l.self.bytes.now l.self.used ≡ put_all (holds l.fn.self.bytes.now l.fn.self.used) (take l.b-index l.s);
  early : l.fn.self.used + length l.s < length l.fn.self.bytes.now → l.self.used ≡ l.fn.self.used + l.b-index;
  same_length : length l.self.bytes.now ≡ length l.fn.self.bytes.now;
  same : (l.self.bytes.ghost_name ≡ l.fn.self.bytes.ghost_name) × (l.self.rt ≡ l.fn.self.rt);
}
