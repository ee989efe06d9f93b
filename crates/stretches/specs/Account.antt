-- Document 01, "The account and SHOW": the 16-bit words of a candidate, "rule, start, end, verdict, deciding start", and document 02, No. 1:
-- "A sixth word gives the rule of the deciding stretch (its own for verdict 0)."
use Rattle.std.specs.Prelude.{ℕ, zero, suc, ◌-◌, List, [], ◌∷◌, ◌++◌, cond, ◌≡◌, refl, ltb, length}
use Rattle.book.specs.Language.{Rules}
use Rattle.stretches.specs.Candidates.{Stretch, candidate, rule_of, over_tape, keep}

pub record Line : Type 0 where
  -- the candidate: its rule's number, and the stretch from start up to and not including end
  pub rule : ℕ
  pub start : ℕ
  pub end : ℕ
  -- 0 to 3, as `verdict_by` says
  pub verdict : ℕ
  -- where the taken stretch starts that decides, at most `start`
  pub deciding : ℕ
  -- the rule by which it is taken
  pub deciding_rule : ℕ

-- the line of the candidate from i to j of the rule r, where the stretch that starts at `start` decides by its rule `rule`
abbrev pub judge : (i j r verdict start rule : ℕ) → Line
judge i j r verdict start rule = record { rule = r; start = i; end = j; verdict = verdict; deciding = start; deciding_rule = rule }

-- "Verdicts: 0 taken; 1 shorter than the taken one at the same start; 2 same stretch, lower rule taken; 3 start strictly inside a taken
-- stretch", of the candidate from i to j of the rule r, where the stretch from start to end with its rule decides
abbrev pub verdict_by : (i j r start end rule : ℕ) → ℕ
verdict_by i j r start end rule = cond (ltb start i) 3 (cond (ltb j end) 1 (cond (ltb rule r) 2 0))

-- where d stands over i
abbrev pub verdict_of : Rules → List ℕ → ℕ → ℕ → ℕ → Stretch → ℕ
verdict_of b t i j r d = verdict_by i j r d.start d.end (rule_of b t d.start d.end)

-- "The deciding start is that of the taken stretch, its own for 0"; "the rule of the deciding stretch (its own for verdict 0)"
abbrev pub line_for : Rules → List ℕ → ℕ → ℕ → ℕ → Stretch → Line
line_for b t i j r d = judge i j r (verdict_of b t i j r d) d.start (rule_of b t d.start d.end)

-- what f says of each number from a on, n of them
abbrev pub each {ℓ} : {A : Type ℓ} → (ℕ → List A) → ℕ → ℕ → List A
each f a zero = []
each f a (suc n) = f a ++ each f (suc a) n

-- the candidates that start at i: the ends from i to n, and for each end the rules
abbrev pub lines_at : Rules → List ℕ → ℕ → List ℕ → Stretch → List Line
lines_at b t i x d = each (λ (j : ℕ). each (λ (r : ℕ). keep (candidate b t i j r) (line_for b t i j r d)) 0 (length b.words)) i (suc (length t) - i)

-- "Order: start, end, rule"
unfoldable pub account : Rules → List ℕ → List Line
account b t = over_tape (lines_at b t) b t

-- the words of a line
abbrev pub line_words : Line → List ℕ
line_words l = l.rule ∷ l.start ∷ l.end ∷ l.verdict ∷ l.deciding ∷ l.deciding_rule ∷ []

-- how many they are, and where each stands
abbrev pub line_length : ℕ
line_length = 6

abbrev pub line_rule : ℕ
line_rule = 0

abbrev pub line_start : ℕ
line_start = 1

abbrev pub line_end : ℕ
line_end = 2

abbrev pub line_verdict : ℕ
line_verdict = 3

abbrev pub line_deciding : ℕ
line_deciding = 4

abbrev pub line_deciding_rule : ℕ
line_deciding_rule = 5

pub line_length_lem : (l : Line) → length (line_words l) ≡ line_length
line_length_lem l = refl

-- the words of the account, one line after the other
unfoldable pub words_in : List Line → List ℕ
words_in [] = []
words_in (l ∷ ls) = line_words l ++ words_in ls
