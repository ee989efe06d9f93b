-- What REWRITE answers says all of the result. Assumes nothing.
use Rattle.std.proofs.Common.{Result, Ok, Err, ◌≡◌, sym, ap}
use Rattle.book.specs.declared.replies.Refusal.{Refusal}
use Rattle.book.proofs.Refusals.{number_some, refusal_one}
use Rattle.output.specs.Results.{rewritten}
use Rattle.output.specs.declared.Size.{Size}
use Rattle.output.specs.declared.Rewritten.{Rewritten}

pub rewritten_one : (x y : Result Size Refusal) → rewritten x ≡ rewritten y → x ≡ y
rewritten_one (Ok r) (Ok s) h = ap Ok (λ i. record { length = (h i).length; taken = (h i).taken })
rewritten_one (Ok r) (Err f) h = absurd (number_some f.reason (sym (ap (λ (w : Rewritten). w.reply) h)))
rewritten_one (Err e) (Ok s) h = absurd (number_some e.reason (ap (λ (w : Rewritten). w.reply) h))
rewritten_one (Err e) (Err f) h = ap Err (refusal_one e f (ap (λ (w : Rewritten). w.reply) h) (ap (λ (w : Rewritten). w.place) h))
