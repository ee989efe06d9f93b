-- What ACCOUNT answers says all of the result. Assumes nothing.
use Rattle.std.proofs.Common.{ℕ, Result, Ok, Err, ◌≡◌, sym, ap}
use Rattle.book.specs.declared.replies.Refusal.{Refusal}
use Rattle.book.proofs.Refusals.{number_some, refusal_one}
use Rattle.lines.specs.Results.{accounted}
use Rattle.lines.specs.declared.Accounted.{Accounted}

pub accounted_one : (x y : Result ℕ Refusal) → accounted x ≡ accounted y → x ≡ y
accounted_one (Ok n) (Ok k) h = ap Ok (ap (λ (a : Accounted). a.candidates) h)
accounted_one (Ok n) (Err f) h = absurd (number_some f.reason (sym (ap (λ (a : Accounted). a.reply) h)))
accounted_one (Err e) (Ok k) h = absurd (number_some e.reason (ap (λ (a : Accounted). a.reply) h))
accounted_one (Err e) (Err f) h = ap Err (refusal_one e f (ap (λ (a : Accounted). a.reply) h) (ap (λ (a : Accounted). a.place) h))
