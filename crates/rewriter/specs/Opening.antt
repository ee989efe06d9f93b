-- What the functions before the forward passes hand on, for their contracts: a result's refusal, the refusals of a tape, and the numbers of the right
-- sets as the code walks to them. What the refusals and the numbers are is `early` and `right_numbers` of Replies.
use Rattle.std.specs.Prelude.{ℕ, suc, ◌<◌, List, map, cond, leb, ltb, eqb, length, drop, get_or, Result}
use Rattle.book.specs.Format.{symbol_count}
use Rattle.book.specs.Language.{up_from}
use Rattle.book.specs.Refusals.{reply_of, place_of}
use Rattle.book.specs.declared.replies.Refusal as declared
use Rattle.sets.specs.Sets.{before}
use Rattle.sets.specs.Tables.{right_entry}
use Rattle.stretches.specs.Buffers.{longest_tape, onto}
use Rattle.rewriter.specs.Replies.{Refusal, first_bad, refusal}

-- a result's refusal: its number and place, both 0 where there is none
abbrev pub refusal_of : {A : Type 0} → Result A declared.Refusal → Refusal
refusal_of r = refusal (reply_of r) (place_of r)

-- no symbol is refused with 10
abbrev pub Symbols : List ℕ → Type 0
Symbols t = (i : ℕ) → i < length t → get_or t i 0 < symbol_count

-- the number at i, by the right rows from the tape's end, where it is 0; and the numbers from 0 to n
abbrev pub right_number : List ℕ → List ℕ → ℕ → ℕ
right_number rows t i = before 0 (right_entry rows) (drop i t)

unfoldable pub right_all : List ℕ → List ℕ → List ℕ
right_all rows t = map (right_number rows t) (up_from 0 (suc (length t)))

-- the refusals of a tape alone, 9 and 10; after a build those of a tape and its scratch, 9, 10 and 12
unfoldable pub tape_refusal : List ℕ → Refusal
tape_refusal tape =
    cond (ltb longest_tape (length tape)) (refusal 9 0)
    (cond (ltb (first_bad tape) (length tape)) (refusal 10 (first_bad tape))
    (refusal 0 0))

unfoldable pub tape_tests : List ℕ → ℕ → Refusal
tape_tests tape scratch =
    cond (eqb (tape_refusal tape).reply 0)
    (cond (leb scratch (length tape)) (refusal 12 0) (refusal 0 0))
    (tape_refusal tape)

-- and what stands after the backward pass, by the right rows
pub record AfterOpening : Type 0 where
  pub answer : Refusal
  pub scratch : List ℕ

abbrev pub opens : Refusal → List ℕ → AfterOpening
opens answer scratch = record { answer = answer; scratch = scratch }

unfoldable pub open_def : List ℕ → List ℕ → List ℕ → AfterOpening
open_def rows tape scratch =
    cond (eqb (tape_tests tape (length scratch)).reply 0)
    (opens (tape_tests tape (length scratch)) (onto (right_all rows tape) scratch))
    (opens (tape_tests tape (length scratch)) scratch)
