-- What the plan answers.
use Rattle.std.specs.Prelude.{ℕ, ◌≤◌, ◌≡◌, List, Result, Ok, Err}
use Rattle.book.specs.Refusals.{number}
use Rattle.book.specs.declared.Written.{Written}
use Rattle.book.specs.declared.replies.Refusal.{Refusal}
use Rattle.att.specs.Text.{refusal}
use Rattle.att.specs.declared.part.Plan.{Plan}

abbrev pub plan_answer : Result Plan Refusal → Written
plan_answer (Ok p) = record { reply = 0; place = 0; length = p.bytes }
plan_answer (Err e) = refusal (number e.reason) e.place

-- the plan is the call's
pub record PlanOf (s : List ℕ) (k n room : ℕ) (p : Plan) : Type 0 where
  pub text : p.text.now ≡ s
  pub part : p.part ≡ k
  pub first : p.first ≡ n
  pub fits : p.bytes ≤ room

abbrev pub OfCall : List ℕ → ℕ → ℕ → ℕ → Result Plan Refusal → Type 0
OfCall s part first room (Ok p) = PlanOf s part first room p
OfCall s part first room (Err e) = Unit {0}
