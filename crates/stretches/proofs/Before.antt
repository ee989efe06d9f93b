-- Document 02, No. 4, "Outputs .. stay as they are": the symbols are those of before, and so are the origins where no replacement has two or more
-- symbols. Assumes nothing.
use Prim.Native.Nat.{ℕ, ◌-◌, ◌≤◌}
use mathlib.Core.List.{List, [], ◌∷◌, ◌++◌}
use mathlib.Core.Path.{◌≡◌, refl, sym, ap, ap₂, ◌∙◌}
use native.Mathlib.Omega.{arith}
use lib.ListN.{length}
use Rattle.book.specs.Language.{Rules}
use Rattle.stretches.specs.Output.{Mark, marks, word_marks, rule_word, rewriting, symbols_of}
use Rattle.stretches.specs.Account.{Line, account}
use Rattle.stretches.specs.Sentences.{taken_lines, kept_from, replace}
use Rattle.stretches.specs.Before.{replace_at_starts, ShortWords}
use Rattle.stretches.proofs.WordMarks.{symbols_append, marks_symbols}
use Rattle.stretches.proofs.Replaced.{rewriting_account}

symbols_start : (w : List ℕ) (i : ℕ) → symbols_of (marks w i) ≡ w
symbols_start [] i = refl
symbols_start (x ∷ w) i = ap (λ (l : List ℕ). x ∷ l) (symbols_start w i)

same_symbols : (b : Rules) (t : List ℕ) (a : ℕ) (ls : List Line) → symbols_of (replace b t a ls) ≡ symbols_of (replace_at_starts b t a ls)
same_symbols b t a [] = refl
same_symbols b t a (l ∷ ls) =
    let kept = kept_from t a (l.start - a) in
    let w = rule_word b l.rule in
    let new = word_marks w l.start l.end in
    let old = marks w l.start in
    symbols_append kept (new ++ replace b t l.end ls)
    ∙ ap (λ (x : List ℕ). symbols_of kept ++ x)
    (symbols_append new (replace b t l.end ls)
    ∙ ap₂ (λ (x y : List ℕ). x ++ y) (marks_symbols w l.start l.end ∙ sym (symbols_start w l.start)) (same_symbols b t l.end ls)
    ∙ sym (symbols_append old (replace_at_starts b t l.end ls)))
    ∙ sym (symbols_append kept (old ++ replace_at_starts b t l.end ls))

short_marks : (w : List ℕ) (i j : ℕ) → length w ≤ 1 → word_marks w i j ≡ marks w i
short_marks [] i j h = refl
short_marks (x ∷ []) i j h = refl
short_marks (x ∷ y ∷ w) i j h = absurd (omega arith)

same_marks : (b : Rules) (t : List ℕ) → ShortWords b → (a : ℕ) (ls : List Line) → replace b t a ls ≡ replace_at_starts b t a ls
same_marks b t s a [] = refl
same_marks b t s a (l ∷ ls) =
    ap₂ (λ (x y : List Mark). kept_from t a (l.start - a) ++ (x ++ y)) (short_marks (rule_word b l.rule) l.start l.end (s l.rule))
    (same_marks b t s l.end ls)

module _ (b : Rules) (t : List ℕ) where
  pub symbols_before : symbols_of (rewriting b t) ≡ symbols_of (replace_at_starts b t 0 (taken_lines (account b t)))
  symbols_before = ap symbols_of (rewriting_account b t) ∙ same_symbols b t 0 (taken_lines (account b t))

  pub short_before : ShortWords b → rewriting b t ≡ replace_at_starts b t 0 (taken_lines (account b t))
  short_before s = rewriting_account b t ∙ same_marks b t s 0 (taken_lines (account b t))
