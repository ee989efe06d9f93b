-- Document 01, "Reply numbers": what the passes of the account answer and leave in it.
use Rattle.std.specs.Prelude.{ℕ, ◌*◌, List, cond, leb, length}
use Rattle.book.specs.Language.{Rules}
use Rattle.stretches.specs.Account.{account, line_length, words_in}
use Rattle.stretches.specs.Buffers.{onto}
use Rattle.lines.specs.declared.Accounted.{Accounted}

-- what stands after the passes: the answer, and the buffer of the account
pub record AfterLines : Type 0 where
  pub answer : Accounted
  pub lines : List ℕ

abbrev pub lines_leave : Accounted → List ℕ → AfterLines
lines_leave answer lines = record { answer = answer; lines = lines }

-- six words a candidate
abbrev pub words_needed : Rules → List ℕ → ℕ
words_needed b tape = line_length * length (account b tape)

-- the account of one tape after a build: "15: the account shorter than" its words, "words needed"; document 02, No. 1: "15 now counts six words a
-- candidate"
unfoldable pub lines_def : Rules → List ℕ → List ℕ → AfterLines
lines_def b tape lines =
    cond (leb (words_needed b tape) (length lines))
    (lines_leave (record { reply = 0; place = 0; candidates = length (account b tape) }) (onto (words_in (account b tape)) lines))
    (lines_leave (record { reply = 15; place = words_needed b tape; candidates = 0 }) lines)
