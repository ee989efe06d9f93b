-- What stands at a place of a text. The last number of a good line is the place of the next.
use Rattle.std.specs.Prelude.{ℕ}

pub data Line : Type 0 where
  End : Line
  Final : ℕ → ℕ → Line
  Arc : ℕ → ℕ → ℕ → ℕ → Line
  Faulty : ℕ → Line
