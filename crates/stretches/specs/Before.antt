-- What a request of document 02 leaves as it was is said of the reading before it; no contract uses these.
use Rattle.std.specs.Prelude.{ℕ, ◌-◌, ◌≤◌, not, ◌&&◌, List, [], ◌∷◌, ◌++◌, length}
use Rattle.book.specs.Language.{Rules}
use Rattle.book.specs.Before.{high}
use Rattle.stretches.specs.Output.{Mark, marks, rule_word}
use Rattle.stretches.specs.Account.{Line}
use Rattle.stretches.specs.Sentences.{kept_from}

-- before No. 4: "every symbol of a replacement the start of the stretch"
abbrev pub replace_at_starts : Rules → List ℕ → ℕ → List Line → List Mark
replace_at_starts b t a [] = kept_from t a (length t - a)
replace_at_starts b t a (l ∷ ls) = kept_from t a (l.start - a) ++ (marks (rule_word b l.rule) l.start ++ replace_at_starts b t l.end ls)

-- no replacement has two or more symbols
abbrev pub ShortWords : Rules → Type 0
ShortWords b = (r : ℕ) → length (rule_word b r) ≤ 1

-- before No. 6, "symbols 0 to 15": the same rules, where every language has words of the first n symbols alone
abbrev pub rules_below : ℕ → Rules → Rules
rules_below n b = record {
  words = b.words;
  left = λ (r : ℕ) (w : List ℕ). not (high n w) && b.left r w;
  focus = λ (r : ℕ) (w : List ℕ). not (high n w) && b.focus r w;
  right = λ (r : ℕ) (w : List ℕ). not (high n w) && b.right r w;
}
