-- Results with one answer are one: no reason has the number 0, and no two have one number. Assumes nothing.
use mathlib.Core.Path.{◌≡◌, ap, sym}
use Rattle.std.proofs.Common.{Result, Ok, Err}
use Rattle.book.specs.declared.replies.Refusal.{Refusal}
use Rattle.book.proofs.Refusals.{number_some, refusal_one}
use Rattle.sets.specs.declared.Counts.{Counts}
use Rattle.sets.specs.declared.Built.{Built}
use Rattle.sets.specs.Results.{built}

pub built_one : (x y : Result Counts Refusal) → built x ≡ built y → x ≡ y
built_one (Ok c) (Ok d) h = ap Ok (λ i. record { left = (h i).left; right = (h i).right })
built_one (Ok c) (Err e) h = absurd (number_some e.reason (sym (ap (λ (b : Built). b.reply) h)))
built_one (Err e) (Ok d) h = absurd (number_some e.reason (ap (λ (b : Built). b.reply) h))
built_one (Err e) (Err f) h = ap Err (refusal_one e f (ap (λ (b : Built). b.reply) h) (ap (λ (b : Built). b.place) h))
