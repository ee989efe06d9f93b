-- The account as it is counted and written: one rule, one end and one start after the other.
use Rattle.std.specs.Prelude.{ℕ, suc, ◌+◌, ◌-◌, ◌≤◌, ◌≡◌, List, cond, ltb, length, Option, Some, None}
use Rattle.book.specs.Reading.{Book}
use Rattle.book.specs.Language.{Rules}
use Rattle.stretches.specs.Candidates.{Stretch, candidate, longest, keep}
use Rattle.stretches.specs.Account.{Line, judge, verdict_by, each, words_in}
use Rattle.stretches.specs.Sentences.{sum}
use Rattle.stretches.specs.Position.{hits, no_rule, lowest}
use Rattle.stretches.specs.Lists.{put}
use Rattle.lines.specs.declared.writing.Deciding.{Deciding}
use Rattle.lines.specs.declared.writing.Account.{Account}
use Rattle.lines.specs.declared.writing.Verdict.{Verdict}
use Rattle.lines.specs.declared.writing.Verdict.TheVariants.{Taken, Shorter, LowerRule, Inside}

-- how many rules pass at an end
unfoldable pub hit_count : Book → ℕ → ℕ → ℕ
hit_count b X R = sum (λ (r : ℕ). cond (hits b X R r) 1 0) 0 (length b.words)

-- of how many rules the stretch from i to j is a candidate
abbrev pub end_count : Rules → List ℕ → ℕ → ℕ → ℕ
end_count b t i j = sum (λ (r : ℕ). cond (candidate b t i j r) 1 0) 0 (length b.words)

-- how many candidates start at i
unfoldable pub start_count : Rules → List ℕ → ℕ → ℕ
start_count b t i = sum (end_count b t i) i (suc (length t) - i)

-- what decides at i, of what the code hands on: where that is nothing, the position itself and the number that is no rule's
abbrev pub decided : ℕ → Option Deciding → Deciding
decided i (Some d) = d
decided i None = record { start = i; end = i; rule = no_rule }

-- a stretch with its rule, the number that is no rule's where it is not taken
abbrev pub decider : Rules → List ℕ → Stretch → Deciding
decider b t d = record { start = d.start; end = d.end; rule = lowest b t d.start d.end }

-- what decides at i, where c decides at the position before
unfoldable pub deciding_at : Rules → List ℕ → ℕ → Deciding → Deciding
deciding_at b t i c = cond (ltb i c.end) c (record { start = i; end = longest b t i; rule = lowest b t i (longest b t i) })

-- the numbers of the verdicts
abbrev pub code : Verdict → ℕ
code Taken = 0
code Shorter = 1
code LowerRule = 2
code Inside = 3

-- the line of the candidate from i to j of the rule r, where d decides
abbrev pub line_by : ℕ → ℕ → ℕ → Deciding → Line
line_by i j r d = judge i j r (verdict_by i j r d.start d.end d.rule) d.start d.rule

-- what decides at a position up to n: its numbers stand in the words of a line where n is the longest tape's length
pub record DecidesBy (n : ℕ) (d : Deciding) : Type 0 where
  pub start : d.start ≤ n
  pub rule : d.rule ≤ no_rule

-- the lines of one end
unfoldable pub hit_lines : Book → ℕ → ℕ → ℕ → ℕ → Deciding → List Line
hit_lines b X R i j d = each (λ (r : ℕ). keep (hits b X R r) (line_by i j r d)) 0 (length b.words)

abbrev pub end_lines : Rules → List ℕ → ℕ → Deciding → ℕ → List Line
end_lines b t i d j = each (λ (r : ℕ). keep (candidate b t i j r) (line_by i j r d)) 0 (length b.words)

-- the lines of one start
unfoldable pub start_lines : Rules → List ℕ → ℕ → Deciding → List Line
start_lines b t i d = each (end_lines b t i d) i (suc (length t) - i)

-- lines fit a buffer from `at` on
abbrev pub LinesFit : List Line → ℕ → List ℕ → Type 0
LinesFit ls at l = at + length (words_in ls) ≤ length l

-- they are written there
pub record LinesPut (ls : List Line) (at : ℕ) (l₀ : List ℕ) (at' : ℕ) (l : List ℕ) : Type 0 where
  pub next : at' ≡ at + length (words_in ls)
  pub lines : l ≡ put l₀ at (words_in ls)

-- the same of the account as far as it is written, and it is the same buffer
abbrev pub Fits : List Line → Account → Type 0
Fits ls a = LinesFit ls a.at a.lines.now

pub record Puts (ls : List Line) (a b : Account) : Type 0 where
  pub put : LinesPut ls a.at a.lines.now b.at b.lines.now
  pub same_buffer : b.lines.ghost_name ≡ a.lines.ghost_name
