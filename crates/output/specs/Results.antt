-- REWRITE's answer of numbers, of what the passes answer. Document 01: "If an answer is an enum, a definition gives this paper's number and values for each
-- of its cases, and the promises use that definition."
use Rattle.std.specs.Prelude.{Result, Ok, Err}
use Rattle.book.specs.Refusals.{number}
use Rattle.book.specs.declared.replies.Refusal.{Refusal}
use Rattle.output.specs.declared.Rewritten.{Rewritten}
use Rattle.output.specs.declared.Size.{Size}

-- "Accepted, .. REWRITE the output length and the number of stretches taken. .. Every refusal returns 0 for these."
abbrev pub rewritten : Result Size Refusal → Rewritten
rewritten (Ok s) = record { reply = 0; place = 0; length = s.length; taken = s.taken }
rewritten (Err e) = record { reply = number e.reason; place = e.place; length = 0; taken = 0 }
