-- Document 02, No. 8: "Operators leave the recorder on and put a marker between heats." The joined tape, and what it is to move an output, a stretch or a
-- line on along the tape; for theorems. What it is that the symbol is on no arc of the book is `on_no_arc` of crates/book, Unused.
use Rattle.std.specs.Prelude.{ℕ, suc, ◌+◌, List, [], ◌∷◌, ◌++◌, Bool, cond, ◌||◌, eqb, length}
use Rattle.stretches.specs.Candidates.{Stretch}
use Rattle.stretches.specs.Output.{Mark}
use Rattle.stretches.specs.Account.{Line, line_length, line_start, line_end, line_deciding}

-- "one tape, that symbol and a second tape"
abbrev pub joined : List ℕ → ℕ → List ℕ → List ℕ
joined t m u = t ++ (m ∷ u)

-- "the first tape's length and one"
abbrev pub beyond : List ℕ → ℕ
beyond t = suc (length t)

-- the symbol with its own position
abbrev pub marker : List ℕ → ℕ → Mark
marker t m = record { symbol = m; origin = length t }

-- "with the second's origins moved on"
abbrev pub later : ℕ → Mark → Mark
later k x = record { symbol = x.symbol; origin = k + x.origin }

-- "their positions moved alike": start, end and deciding start; rules and verdict are kept
abbrev pub moved : ℕ → Line → Line
moved k l = record {
  rule = l.rule;
  start = k + l.start;
  end = k + l.end;
  verdict = l.verdict;
  deciding = k + l.deciding;
  deciding_rule = l.deciding_rule;
}

-- the same of the words of an account, the first of them word p of a line
abbrev pub is_position : ℕ → Bool
is_position p = eqb p line_start || eqb p line_end || eqb p line_deciding

abbrev pub moved_from : ℕ → ℕ → List ℕ → List ℕ
moved_from k p [] = []
moved_from k p (w ∷ ws) = cond (is_position p) (k + w) w ∷ moved_from k (cond (eqb (suc p) line_length) 0 (suc p)) ws

abbrev pub words_moved : ℕ → List ℕ → List ℕ
words_moved k ws = moved_from k 0 ws

-- a stretch of the second tape, on the joined tape
abbrev pub shifted : ℕ → Stretch → Stretch
shifted k d = record { start = k + d.start; end = k + d.end; taken = d.taken }
