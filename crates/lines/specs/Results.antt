-- ACCOUNT's answer as document 01 has it, of a result: "If an answer is an enum, a definition gives this paper's number and values for each of its
-- cases, and the promises use that definition."
use Rattle.std.specs.Prelude.{ℕ, Result, Ok, Err}
use Rattle.book.specs.Refusals.{number}
use Rattle.book.specs.declared.replies.Refusal.{Refusal}
use Rattle.lines.specs.declared.Accounted.{Accounted}

-- the number of candidates, or the refusal
abbrev pub accounted : Result ℕ Refusal → Accounted
accounted (Ok n) = record { reply = 0; place = 0; candidates = n }
accounted (Err e) = record { reply = number e.reason; place = e.place; candidates = 0 }
