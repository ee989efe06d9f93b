-- After ACCOUNT, SHOW of each line that it counts is that candidate's stretch of the tape, whatever was lent. Assumes nothing.
use Prim.Native.Nat.{ℕ, zero, suc, ◌-◌, ◌*◌, ◌≤◌, ◌<◌}
use mathlib.Core.List.{List, [], ◌∷◌}
use mathlib.Core.Path.{◌≡◌, refl, sym, ap, ◌∙◌}
use native.Mathlib.Omega.{arith}
use lib.Dec.{eqb, leb}
use lib.ListN.{length, take, drop}
use lib.Seq.{slice}
use Rattle.book.specs.Language.{rules_in}
use Rattle.stretches.specs.Account.{Line, account, line_length}
use Rattle.stretches.specs.Sentences.{line_number}
use Rattle.lines.specs.Listing.{AfterLines, lines_def}
use Rattle.rewriter.specs.Replies.{ready_def, AfterAccount, account_def}
use Rattle.rewriter.specs.Show.{between, bounds_of, part_of, show_def}
use Rattle.stretches.proofs.Sorting.{number_in}
use Rattle.stretches.proofs.Accounts.{account_candidates}
use Rattle.stretches.proofs.Lists.{by_test}
use Rattle.rewriter.proofs.Showing.{bounds_line}

take_none : (n : ℕ) → take {A = ℕ} n [] ≡ []
take_none zero = refl
take_none (suc n) = refl

-- the part that is cut is the tape from i to j
part_slice : (t : List ℕ) (i j : ℕ) → i ≤ j → slice i j t ≡ part_of t (between i j)
part_slice t zero j h = let e : j ≡ j - 0 = omega arith in ap (λ (n : ℕ). take n t) e
part_slice t (suc i) zero h = absurd (omega arith)
part_slice [] (suc i) (suc j) h = sym (take_none (suc j - suc i))
part_slice (x ∷ t) (suc i) (suc j) h =
    let e : j - i ≡ suc j - suc i = omega arith in
    part_slice t i j (omega arith) ∙ ap (λ (n : ℕ). take n (drop i t)) e

module _ (s t rows sets scratch lines : List ℕ) (k : ℕ) where
  abbrev line : Line
  line = line_number (account (rules_in s) t) k

  listed : k < (lines_def (rules_in s) t lines).answer.candidates
      → between line.start line.end ≡ bounds_of (length t) (lines_def (rules_in s) t lines).lines k
  unfolding lines_def
  listed =
      by_test (λ (x : AfterLines). k < x.answer.candidates → between line.start line.end ≡ bounds_of (length t) x.lines k)
      (leb (line_length * length (account (rules_in s) t)) (length lines)) _ _ (λ e h. bounds_line (rules_in s) t lines k h) (λ e h. absurd (omega arith))

  pub bounds_after : k < (account_def s t rows sets scratch lines).answer.candidates
      → between line.start line.end ≡ bounds_of (length t) (account_def s t rows sets scratch lines).lines k
  unfolding account_def
  bounds_after =
      by_test (λ (x : AfterAccount). k < x.answer.candidates → between line.start line.end ≡ bounds_of (length t) x.lines k)
      (eqb (ready_def s t rows sets scratch).answer.reply 0) _ _
      (λ e h. listed h)
      (λ e h. absurd (omega arith))

  in_order : k < (lines_def (rules_in s) t lines).answer.candidates → line.start ≤ line.end
  unfolding lines_def
  in_order =
      by_test (λ (x : AfterLines). k < x.answer.candidates → line.start ≤ line.end)
      (leb (line_length * length (account (rules_in s) t)) (length lines)) _ _
      (λ e h. let m = number_in (account (rules_in s) t) k h in
      ((account_candidates (rules_in s) t line.start line.end line.rule).1 (line, m, refl, refl, refl)).ordered)
      (λ e h. absurd (omega arith))

  ordered : k < (account_def s t rows sets scratch lines).answer.candidates → line.start ≤ line.end
  unfolding account_def
  ordered =
      by_test (λ (x : AfterAccount). k < x.answer.candidates → line.start ≤ line.end)
      (eqb (ready_def s t rows sets scratch).answer.reply 0) _ _ (λ e h. in_order h) (λ e h. absurd (omega arith))

  pub symbols_after : k < (account_def s t rows sets scratch lines).answer.candidates
      → slice line.start line.end t ≡ show_def t (account_def s t rows sets scratch lines).lines k
  unfolding show_def
  symbols_after h = part_slice t line.start line.end (ordered h) ∙ ap (part_of t) (bounds_after h)
