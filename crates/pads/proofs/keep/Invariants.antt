-- The characters read so far are kept, and there was room for them.
use Rattle.std.proofs.Common.{◌≡◌, ◌≤◌, ◌-◌, ◌++◌, take}
use Rattle.arrayvec.specs.ArrayVec.{array_vec_len}
use Rattle.pads.specs.declared.TheConstants.{KEPT}
use Rattle.pads.specs.Digits.{symbols_of}
use Rattle.pads.proofs.keep.Given as goal

abbrev pub invariant-loop-b : goal.invariant-loop-b
invariant-loop-b l = record {
  kept : l.tape.items ≡ l.fn.tape.items ++ symbols_of (take l.b-index l.piece);
  room : l.b-index ≤ KEPT - array_vec_len l.fn.tape;
}
