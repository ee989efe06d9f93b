-- The longest tape, and what is written over the front of a buffer.
use Rattle.std.specs.Prelude.{ℕ}
pub use Rattle.book.specs.Format.{onto}

-- "tape 0 to 4,096 symbols"
abbrev pub longest_tape : ℕ
longest_tape = 4096
