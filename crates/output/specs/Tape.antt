-- Document 01, "Reply numbers": what the forward passes answer and leave in both outputs.
use Rattle.std.specs.Prelude.{ℕ, List, cond, ◌&&◌, leb, length}
use Rattle.book.specs.Language.{Rules}
use Rattle.stretches.specs.Candidates.{taken}
use Rattle.stretches.specs.Output.{rewriting, symbols_of, origins_of}
use Rattle.stretches.specs.Buffers.{onto}
use Rattle.output.specs.declared.Rewritten.{Rewritten}

-- one tape after a build: "15: an output buffer shorter than the output; symbols needed"; outputs and origins are then unchanged
pub record AfterTape : Type 0 where
  pub answer : Rewritten
  pub out : List ℕ
  pub origins : List ℕ

abbrev pub tape_leaves : Rewritten → List ℕ → List ℕ → AfterTape
tape_leaves answer out origins = record { answer = answer; out = out; origins = origins }

unfoldable pub tape_def : Rules → List ℕ → List ℕ → List ℕ → AfterTape
tape_def b tape out origins =
    cond (leb (length (rewriting b tape)) (length out) && leb (length (rewriting b tape)) (length origins))
    (tape_leaves (record { reply = 0; place = 0; length = length (rewriting b tape); taken = length (taken b tape) })
    (onto (symbols_of (rewriting b tape)) out) (onto (origins_of (rewriting b tape)) origins))
    (tape_leaves (record { reply = 15; place = length (rewriting b tape); length = 0; taken = 0 }) out origins)
