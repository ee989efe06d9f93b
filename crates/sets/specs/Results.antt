-- What BUILD's answer is of a result: "If an answer is an enum, a definition gives this paper's number and values for each of its cases, and the
-- promises use that definition."
use Rattle.std.specs.Prelude.{Result, Ok, Err}
use Rattle.book.specs.declared.replies.Refusal.{Refusal}
use Rattle.book.specs.Refusals.{number}
use Rattle.sets.specs.declared.Counts.{Counts}
use Rattle.sets.specs.declared.Built.{Built}

-- "BUILD the two set counts. Every refusal returns 0 for these."
abbrev pub built : Result Counts Refusal → Built
built (Ok c) = record { reply = 0; place = 0; left = c.left; right = c.right }
built (Err e) = record { reply = number e.reason; place = e.place; left = 0; right = 0 }
