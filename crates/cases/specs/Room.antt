-- The lengths that a case lends are within the room that there is: ROWS, SETS, SCRATCH, OUT and LINES of src/buffers.rt.
use Rattle.std.specs.Prelude.{ℕ, ◌+◌, ◌*◌, ◌/◌, ◌≤◌}
use Rattle.sets.specs.Workspace.{row_bytes, set_words}
use Rattle.stretches.specs.Account.{line_length}
use Rattle.stretches.specs.Buffers.{longest_tape}

abbrev pub out_room : ℕ
out_room = longest_tape + longest_tape / 2 + 6

abbrev pub lines_room : ℕ
lines_room = line_length * (longest_tape / 2) + 10

pub record Room (rows sets scratch out origins lines : ℕ) : Type 0 where
  pub rows_fit : rows ≤ row_bytes + 8
  pub sets_fit : sets ≤ set_words + 8
  pub scratch_fits : scratch ≤ longest_tape + 4
  pub out_fits : out ≤ out_room
  pub origins_fit : origins ≤ out_room
  pub lines_fit : lines ≤ lines_room
