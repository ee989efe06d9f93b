-- What comes of the starts of a tape and of the ends of a start, one after the other: each once, in order, the last one last.
use Rattle.std.specs.Prelude.{ℕ, suc, ◌-◌, ◌<◌, ◌≡◌, List, length, Option, MatchOption}
use Rattle.std.specs.Iterator.{Count, at_most}
use Rattle.book.specs.Language.{Rules, rules_in}
use Rattle.lines.specs.Ends.{NoneFrom}
use Rattle.lines.specs.declared.ends.Start.{Start}
use Rattle.lines.specs.declared.ends.End.{End}
use Rattle.lines.specs.declared.ends.Starts.{Starts}
use Rattle.lines.specs.declared.ends.Ends.{Ends}

-- what the starts are those of: the book's bytes and its rules, and the tape
abbrev pub bytes : Start → List ℕ
bytes s = s.pass.now.walk.outline.states.book.now

abbrev pub rules_for : Start → Rules
rules_for s = rules_in (bytes s)

abbrev pub tape_of : Start → List ℕ
tape_of s = s.pass.now.walk.tape.now

-- from s on, x is the next start, and t has the others
pub record NextStart (s : Starts) (x : Start) (t : Starts) : Type 0 where
  pub pass : x.pass ≡ s.pass
  pub at : x.at ≡ s.at
  pub pass_after : t.pass ≡ s.pass
  pub at_after : t.at ≡ suc s.at

abbrev pub StartGiven : Starts → Option Start → Starts → Type 0
StartGiven s r t = MatchOption r (length s.pass.now.walk.tape.now < s.at) (λ x. NextStart s x t)

abbrev pub starts_left : Starts → Count
starts_left s = at_most (suc (length s.pass.now.walk.tape.now) - s.at)

-- the same for the ends: where none is left, no candidate ends later
pub record NextEnd (s : Ends) (x : End) (t : Ends) : Type 0 where
  pub start : x.start ≡ s.start
  pub at : x.at ≡ s.at
  pub start_after : t.start ≡ s.start
  pub at_after : t.at ≡ suc s.at

abbrev pub EndGiven : Ends → Option End → Ends → Type 0
EndGiven s r t = MatchOption r (NoneFrom (rules_for s.start) (tape_of s.start) s.start.at s.at) (λ x. NextEnd s x t)

abbrev pub ends_left : Ends → Count
ends_left s = at_most (suc (length (tape_of s.start)) - s.at)
