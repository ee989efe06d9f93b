-- The contracts of the public functions determine what they give, and all that is lent to be written but the remembered steps: of these
-- `taken_at` says that they are right, and not which they are. Assumes nothing.
use Prim.Native.Nat.{ℕ}
use mathlib.Core.Path.{◌≡◌, refl, sym, ap, ◌∙◌}
use contract.Lifetimes.{Lfts}
use denote.Triple.Clauses.{Lasts, at_exit}
use borrow.Fn.Kinds.{Dens, res_t, ended_of}
use Rattle.book.specs.Language.{rules_in}
use Rattle.book.specs.Determined.{Determined, Called}
use Rattle.std.proofs.Common.{Option, Some, None, IfSome, ◌<◌, arith}
use Rattle.book.specs.Format.{most_rules}
use Rattle.stretches.specs.Position.{lowest, end_of, rule_in}
use Rattle.stretches.specs.declared.walk.Taken.{Taken}
use Rattle.stretches.proofs.walk.Rules.first_set.Kinds as first-kinds
use Rattle.stretches.proofs.walk.Rules.first_set.Reads as first_reads
use Rattle.stretches.proofs.walk.Rules.hits.Kinds as hits-kinds
use Rattle.stretches.proofs.walk.Rules.hits.Reads as hits-reads
use Rattle.stretches.proofs.walk.Walk.first_set.Kinds as walk-first-kinds
use Rattle.stretches.proofs.walk.Walk.first_set.Reads as walk-first-reads
use Rattle.stretches.proofs.walk.Walk.hits.Kinds as walk-hits-kinds
use Rattle.stretches.proofs.walk.Walk.hits.Reads as walk-hits-reads
use Rattle.stretches.proofs.walk.Walk.taken_at.Kinds as taken-kinds
use Rattle.stretches.proofs.walk.Walk.taken_at.Reads as taken-reads

pub one_first : Determined 2 first-kinds.ps first-kinds.r (Called 2 first-kinds.ps first-kinds.r first_reads.Pre first_reads.Post)
one_first κs a x y v w p q = (p.1 ∙ sym q.1, refl)

pub one_hits : Determined 2 hits-kinds.ps hits-kinds.r (Called 2 hits-kinds.ps hits-kinds.r hits-reads.Pre hits-reads.Post)
one_hits κs a x y v w p q = (p.1 ∙ sym q.1, refl)

-- the same of the walk's own, which the passes call
pub one_walk_first : Determined 2 walk-first-kinds.ps walk-first-kinds.r walk-first-reads.Post
one_walk_first κs a x y v w p q = (p ∙ sym q, refl)

pub one_walk_hits : Determined 2 walk-hits-kinds.ps walk-hits-kinds.r (Called 2 walk-hits-kinds.ps walk-hits-kinds.r walk-hits-reads.Pre walk-hits-reads.Post)
one_walk_hits κs a x y v w p q = (p.1 ∙ sym q.1, refl)

-- an answer is given by its end and its rule
one_answer : (i : ℕ) (x y : Option Taken) → IfSome x (λ t. t.rule < most_rules) → IfSome y (λ t. t.rule < most_rules) → end_of i x ≡ end_of i y → rule_in x ≡ rule_in y → x ≡ y
one_answer i (Some s) (Some t) h k e f = λ j. Some (record { end = e j; rule = f j })
one_answer i (Some s) None h k e f = absurd (omega (arith, h, f))
one_answer i None (Some t) h k e f = absurd (omega (arith, k, f))
one_answer i None None h k e f = refl

-- what is taken
pub one_taken : (κs : Lfts 3) (a : Dens κs taken-kinds.ps) (x y : (res_t taken-kinds.r κs).Denot) (v w : Lasts (ended_of 3 taken-kinds.ps taken-kinds.r) κs a)
    → taken-reads.Post κs a x (at_exit (ended_of 3 taken-kinds.ps taken-kinds.r) κs a v)
    → taken-reads.Post κs a y (at_exit (ended_of 3 taken-kinds.ps taken-kinds.r) κs a w)
    → x ≡ y
one_taken κs a x y v w p q =
    let far = p.0.far ∙ sym q.0.far in
    let by : ℕ → ℕ = λ e. lowest (rules_in a.0.now.outline.states.book.now) a.0.now.tape.now a.1.0 e in
    one_answer a.1.0 x y p.1.0 q.1.0 far (p.0.who ∙ ap by far ∙ sym q.0.who)
