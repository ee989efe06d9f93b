-- Document 01, "Reply numbers": what REWRITE and ACCOUNT answer and leave in every lent buffer, for any book, tape and buffers.
use Rattle.std.specs.Prelude.{ℕ, suc, List, [], ◌∷◌, map, cond, not, ◌||◌, leb, ltb, eqb, length}
use Rattle.book.specs.Format.{symbol_count}
use Rattle.book.specs.Reading.{Book, check_def, book_of}
use Rattle.book.specs.Language.{rules_in, up_from}
use Rattle.sets.specs.Sets.{right_at}
use Rattle.sets.specs.Numbering.{idx}
use Rattle.sets.specs.Workspace.{AfterBuild, row_bytes, set_words, right_table, build_def}
use Rattle.stretches.specs.Buffers.{longest_tape, onto}
use Rattle.output.specs.Tape.{AfterTape, tape_def}
use Rattle.lines.specs.Listing.{AfterLines, lines_def}
use Rattle.output.specs.declared.Rewritten.{Rewritten}
use Rattle.lines.specs.declared.Accounted.{Accounted}

-- "10: a tape symbol above 15; first such position", and since document 02, No. 6, "5 and 10 now begin at 32": that position, or the tape's length
unfoldable pub first_bad : List ℕ → ℕ
first_bad [] = 0
first_bad (x ∷ xs) = cond (ltb x symbol_count) (suc (first_bad xs)) 0

-- "Reply numbers": No. and Place
pub record Refusal : Type 0 where
  pub reply : ℕ
  pub place : ℕ

abbrev pub refusal : ℕ → ℕ → Refusal
refusal reply place = record { reply = reply; place = place }

-- "After the book: 9, 10, 11, 12": the refusals before anything is built, from the two inputs and the lengths of rows, sets and scratch; 0 is none
unfoldable pub early : List ℕ → List ℕ → ℕ → ℕ → ℕ → Refusal
early book tape rows sets scratch =
    cond (not (eqb (check_def book).reply 0)) (refusal (check_def book).reply (check_def book).place)
    (cond (ltb longest_tape (length tape)) (refusal 9 0)
    (cond (ltb (first_bad tape) (length tape)) (refusal 10 (first_bad tape))
    (cond (ltb rows row_bytes || ltb sets set_words) (refusal 11 0)
    (cond (leb scratch (length tape)) (refusal 12 0)
    (refusal 0 0)))))

-- "Scratch byte i, for i from 0 to n, is the number of the right set at i."
unfoldable pub right_numbers : Book → List ℕ → List ℕ
right_numbers b t = map (λ (i : ℕ). idx (right_table b).sets (right_at b t i)) (up_from 0 (suc (length t)))

-- what stands after the book is checked and built and the tape read backwards: "1 to 12 change no buffer. 13 and 14 leave the workspace parts
-- all 0 and nothing else changed."
pub record AfterReady : Type 0 where
  pub answer : Refusal
  pub rows : List ℕ
  pub sets : List ℕ
  pub scratch : List ℕ

abbrev pub ready_leaves : Refusal → List ℕ → List ℕ → List ℕ → AfterReady
ready_leaves answer rows sets scratch = record { answer = answer; rows = rows; sets = sets; scratch = scratch }

abbrev pub after_build : List ℕ → List ℕ → List ℕ → AfterBuild → AfterReady
after_build book tape scratch b =
    ready_leaves (refusal b.answer.reply 0) b.rows b.sets
    (cond (eqb b.answer.reply 0) (onto (right_numbers (book_of book) tape) scratch) scratch)

unfoldable pub ready_def : List ℕ → List ℕ → List ℕ → List ℕ → List ℕ → AfterReady
ready_def book tape rows sets scratch =
    cond (eqb (early book tape (length rows) (length sets) (length scratch)).reply 0)
    (after_build book tape scratch (build_def book rows sets))
    (ready_leaves (early book tape (length rows) (length sets) (length scratch)) rows sets scratch)

-- REWRITE
pub record AfterRewrite : Type 0 where
  pub answer : Rewritten
  pub rows : List ℕ
  pub sets : List ℕ
  pub scratch : List ℕ
  pub out : List ℕ
  pub origins : List ℕ

abbrev pub rewrite_leaves : Rewritten → List ℕ → List ℕ → List ℕ → List ℕ → List ℕ → AfterRewrite
rewrite_leaves answer rows sets scratch out origins = record { answer = answer; rows = rows; sets = sets; scratch = scratch; out = out; origins = origins }

-- "Every refusal returns 0 for these."
abbrev pub rewrite_from : AfterReady → AfterTape → List ℕ → List ℕ → AfterRewrite
rewrite_from p t out origins =
    cond (eqb p.answer.reply 0)
    (rewrite_leaves t.answer p.rows p.sets p.scratch t.out t.origins)
    (rewrite_leaves (record { reply = p.answer.reply; place = p.answer.place; length = 0; taken = 0 }) p.rows p.sets p.scratch out origins)

unfoldable pub rewrite_def : List ℕ → List ℕ → List ℕ → List ℕ → List ℕ → List ℕ → List ℕ → AfterRewrite
rewrite_def book tape rows sets scratch out origins = rewrite_from (ready_def book tape rows sets scratch) (tape_def (rules_in book) tape out origins) out origins

-- ACCOUNT
pub record AfterAccount : Type 0 where
  pub answer : Accounted
  pub rows : List ℕ
  pub sets : List ℕ
  pub scratch : List ℕ
  pub lines : List ℕ

abbrev pub account_leaves : Accounted → List ℕ → List ℕ → List ℕ → List ℕ → AfterAccount
account_leaves answer rows sets scratch lines = record { answer = answer; rows = rows; sets = sets; scratch = scratch; lines = lines }

abbrev pub account_from : AfterReady → AfterLines → List ℕ → AfterAccount
account_from p l lines =
    cond (eqb p.answer.reply 0)
    (account_leaves l.answer p.rows p.sets p.scratch l.lines)
    (account_leaves (record { reply = p.answer.reply; place = p.answer.place; candidates = 0 }) p.rows p.sets p.scratch lines)

unfoldable pub account_def : List ℕ → List ℕ → List ℕ → List ℕ → List ℕ → List ℕ → AfterAccount
account_def book tape rows sets scratch lines = account_from (ready_def book tape rows sets scratch) (lines_def (rules_in book) tape lines) lines
