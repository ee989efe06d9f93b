-- One position after the other: the tests at one end of a stretch, what is taken at a free position, and what is written and taken at a
-- position, where the last stretch taken before it ends at `end`.
use Rattle.std.specs.Prelude.{ℕ, ◌≡◌, List, [], ◌++◌, Bool, cond, ◌&&◌, ltb, eqb, take, drop, Option, Some, None}
use Rattle.book.specs.Format.{most_rules, focus_part, right_part}
use Rattle.book.specs.Reading.{Book}
use Rattle.book.specs.Language.{Rules, rules}
use Rattle.sets.specs.Focus.{meets_accept, meets_start}
use Rattle.stretches.specs.Candidates.{Stretch, candidate, rules_of, some_rule, first_of, longest, fresh, taken_at}
use Rattle.stretches.specs.Output.{Mark, kept_marks, written}
use Rattle.stretches.specs.declared.walk.Taken.{Taken}

-- a rule passes at an end: X, the focus states there, holds a focus accept of it, and R, the right set there, a right start
unfoldable pub hits : Book → ℕ → ℕ → ℕ → Bool
hits b X R r = meets_accept b r focus_part X && meets_start b r right_part R

-- the number that is no rule's
abbrev pub no_rule : ℕ
no_rule = most_rules

-- the lowest rule that passes
unfoldable pub hit_rule : Book → ℕ → ℕ → ℕ
hit_rule b X R = first_of (hits b X R) (rules_of (rules b)) no_rule

-- the lowest rule of which the stretch from i to j is a candidate, or the number that is no rule's
abbrev pub lowest : Rules → List ℕ → ℕ → ℕ → ℕ
lowest b t i j = first_of (candidate b t i j) (rules_of b) no_rule

-- what is taken at a free position i: where it ends, and its rule; where nothing is taken, i itself and the number that is no rule's
pub record TakenHere (b : Rules) (t : List ℕ) (i end rule : ℕ) : Type 0 where
  pub far : end ≡ longest b t i
  pub who : rule ≡ lowest b t i end

-- the stretch up to `end` by the rule of this number; none where it is no rule's
abbrev pub up_to : ℕ → ℕ → Option Taken
up_to end r = cond (eqb r no_rule) None (Some (record { end = end; rule = r }))

-- what the walk from i answers: where the stretch ends and its rule; i and the number that is no rule's where nothing is taken
abbrev pub end_of : ℕ → Option Taken → ℕ
end_of i (Some t) = t.end
end_of i None = i

abbrev pub rule_in : Option Taken → ℕ
rule_in (Some t) = t.rule
rule_in None = no_rule

-- the word that is written at a free position i
unfoldable pub word_here : Rules → List ℕ → ℕ → List Mark
word_here b t i = cond (some_rule b t i (longest b t i)) (written b t i (longest b t i)) []

-- the symbol at i, where the last stretch taken at or before i ends at `end`; none at the tape's end
unfoldable pub kept_at : List ℕ → ℕ → ℕ → List Mark
kept_at t i end = cond (ltb i end) [] (kept_marks (take 1 (drop i t)) i)

-- what is written at i: the word, then the symbol
unfoldable pub marks_at : Rules → List ℕ → ℕ → ℕ → List Mark
marks_at b t i end = cond (ltb i end) [] (word_here b t i ++ kept_at t i (longest b t i))

-- the stretches taken there
unfoldable pub takes_at : Rules → List ℕ → ℕ → ℕ → List Stretch
takes_at b t i end = cond (ltb i end) [] (taken_at i [] (fresh b t i))

-- where the last stretch ends after it
unfoldable pub end_next : Rules → List ℕ → ℕ → ℕ → ℕ
end_next b t i end = cond (ltb i end) end (longest b t i)
