-- `Outputs::put_word` meets its contract: the symbols so far stand in front, each with the start, and then the last origin is put in. Assumes nothing.
use Rattle.std.proofs.Common.{take}
use Rattle.stretches.specs.Output.{marks}
use Rattle.output.specs.Passes.{MarksPut}
use Rattle.output.proofs.words.Outputs.put_word.Given as goal

abbrev pub invariant-loop-symbol : goal.invariant-loop-symbol
invariant-loop-symbol l = MarksPut (marks (take l.symbol-index l.word) l.start) l.initial.self l.self
