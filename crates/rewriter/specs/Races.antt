-- Document 02, No. 8, "Two races on one tape", of the calls themselves: "rewriting one tape, that symbol and a second tape gives the first rewriting, the
-- symbol, and the second rewriting, with the second's origins moved on by the first tape's length and one. [..] The accounts join the same way, their
-- positions moved alike." For theorems; the joined tape is `joined` of crates/stretches, Races.
use Rattle.std.specs.Prelude.{ℕ, suc, ◌+◌, ◌*◌, ◌≤◌, ◌<◌, ◌≡◌, List, ◌∷◌, ◌++◌, map, length, take}
use Rattle.book.specs.Language.{rules_in}
use Rattle.sets.specs.Workspace.{row_bytes, set_words}
use Rattle.stretches.specs.Output.{rewriting}
use Rattle.stretches.specs.Account.{line_length}
use Rattle.stretches.specs.Races.{words_moved}
use Rattle.lines.specs.Listing.{words_needed}
use Rattle.rewriter.specs.Replies.{AfterRewrite, rewrite_def, AfterAccount, account_def}

-- the buffers that are lent to a call of REWRITE, of ACCOUNT
pub record Lent : Type 0 where
  pub rows : List ℕ
  pub sets : List ℕ
  pub scratch : List ℕ
  pub out : List ℕ
  pub origins : List ℕ
  pub lines : List ℕ

abbrev pub rewrite_call : List ℕ → List ℕ → Lent → AfterRewrite
rewrite_call book tape l = rewrite_def book tape l.rows l.sets l.scratch l.out l.origins

abbrev pub account_call : List ℕ → List ℕ → Lent → AfterAccount
account_call book tape l = account_def book tape l.rows l.sets l.scratch l.lines

-- long enough for the tape: no 11 and no 12; nor 15 of REWRITE, of ACCOUNT
pub record Room (tape : List ℕ) (l : Lent) : Type 0 where
  pub in_rows : row_bytes ≤ length l.rows
  pub in_sets : set_words ≤ length l.sets
  pub in_scratch : length tape < length l.scratch

pub record OutputRoom (book tape : List ℕ) (l : Lent) : Type 0 where
  pub room : Room tape l
  pub in_out : length (rewriting (rules_in book) tape) ≤ length l.out
  pub in_origins : length (rewriting (rules_in book) tape) ≤ length l.origins

pub record AccountRoom (book tape : List ℕ) (l : Lent) : Type 0 where
  pub room : Room tape l
  pub in_lines : words_needed (rules_in book) tape ≤ length l.lines

-- what a call wrote, as far as its answer counts
abbrev pub output_of : AfterRewrite → List ℕ
output_of a = take a.answer.length a.out

abbrev pub origins_in : AfterRewrite → List ℕ
origins_in a = take a.answer.length a.origins

abbrev pub words_of : AfterAccount → List ℕ
words_of a = take (line_length * a.answer.candidates) a.lines

-- the calls on a tape of n symbols, m and a second tape, on the first alone and on the second alone
pub record OutputsJoin (n m : ℕ) (whole first second : AfterRewrite) : Type 0 where
  pub first_accepted : first.answer.reply ≡ 0
  pub second_accepted : second.answer.reply ≡ 0
  pub symbols : output_of whole ≡ output_of first ++ (m ∷ output_of second)
  pub origins : origins_in whole ≡ origins_in first ++ (n ∷ map (λ (o : ℕ). suc n + o) (origins_in second))
  pub lengths : whole.answer.length ≡ first.answer.length + 1 + second.answer.length
  pub stretches : whole.answer.taken ≡ first.answer.taken + second.answer.taken

pub record AccountsJoin (n : ℕ) (whole first second : AfterAccount) : Type 0 where
  pub first_accepted : first.answer.reply ≡ 0
  pub second_accepted : second.answer.reply ≡ 0
  pub words : words_of whole ≡ words_of first ++ words_moved (suc n) (words_of second)
  pub candidates : whole.answer.candidates ≡ first.answer.candidates + second.answer.candidates
