-- The contracts of the public functions determine what they give and leave; where there is a `requires`, of the calls that meet it. Assumes nothing.
use mathlib.Core.Path.{refl, sym, ◌∙◌}
use Rattle.book.specs.Determined.{Determined, Called}
use Rattle.sets.proofs.Results.{built_one}
use Rattle.sets.proofs.try_build.Kinds as try-kinds
use Rattle.sets.proofs.try_build.Reads as try-reads
use Rattle.sets.proofs.build.Kinds as build-kinds
use Rattle.sets.proofs.build.Reads as build-reads
use Rattle.sets.proofs.number_both.Kinds as both-kinds
use Rattle.sets.proofs.number_both.Reads as both-reads
use Rattle.sets.proofs.number_book.Kinds as number-kinds
use Rattle.sets.proofs.number_book.Reads as number-reads
use Rattle.sets.proofs.stepping.focus_step.Kinds as step-kinds
use Rattle.sets.proofs.stepping.focus_step.Reads as step-reads
use Rattle.sets.proofs.stepping.focus_next.Kinds as next-kinds
use Rattle.sets.proofs.stepping.focus_next.Reads as next-reads
use Rattle.sets.proofs.entries.left_entry.Kinds as left-entry-kinds
use Rattle.sets.proofs.entries.left_entry.Reads as left-entry-reads
use Rattle.sets.proofs.entries.right_entry.Kinds as right-entry-kinds
use Rattle.sets.proofs.entries.right_entry.Reads as right-entry-reads
use Rattle.sets.proofs.entries.right_set.Kinds as right-set-kinds
use Rattle.sets.proofs.entries.right_set.Reads as right-set-reads

-- BUILD: the answer, the rows and the sets
pub one_build : Determined 3 build-kinds.ps build-kinds.r build-reads.Post
one_build κs a x y v w p q = let e = p ∙ sym q in (λ i. (e i).answer, λ i. (tt, ((e i).rows, ((e i).sets, tt))))

-- the same of a result: two results with one answer are one
pub one_try : Determined 3 try-kinds.ps try-kinds.r try-reads.Post
one_try κs a x y v w p q = let e = p ∙ sym q in (built_one _ _ (λ i. (e i).answer), λ i. (tt, ((e i).rows, ((e i).sets, tt))))

pub one_both : Determined 4 both-kinds.ps both-kinds.r (Called 4 both-kinds.ps both-kinds.r both-reads.Pre both-reads.Post)
one_both κs a x y v w p q = let e = p.1 ∙ sym q.1 in (built_one _ _ (λ i. (e i).answer), λ i. (tt, ((e i).rows, ((e i).sets, tt))))

pub one_numbered : Determined 3 number-kinds.ps number-kinds.r (Called 3 number-kinds.ps number-kinds.r number-reads.Pre number-reads.Post)
one_numbered κs a x y v w p q = let e = p.1 ∙ sym q.1 in (built_one _ _ (λ i. (e i).answer), λ i. (tt, ((e i).rows, ((e i).sets, tt))))

pub one_step : Determined 2 step-kinds.ps step-kinds.r step-reads.Post
one_step κs a x y v w p q = (p ∙ sym q, refl)

pub one_next : Determined 2 next-kinds.ps next-kinds.r next-reads.Post
one_next κs a x y v w p q = (p ∙ sym q, refl)

pub one_left_entry : Determined 1 left-entry-kinds.ps left-entry-kinds.r
    (Called 1 left-entry-kinds.ps left-entry-kinds.r left-entry-reads.Pre left-entry-reads.Post)
one_left_entry κs a x y v w p q = (p.1 ∙ sym q.1, refl)

pub one_right_entry : Determined 1 right-entry-kinds.ps right-entry-kinds.r
    (Called 1 right-entry-kinds.ps right-entry-kinds.r right-entry-reads.Pre right-entry-reads.Post)
one_right_entry κs a x y v w p q = (p.1 ∙ sym q.1, refl)

pub one_right_set : Determined 2 right-set-kinds.ps right-set-kinds.r (Called 2 right-set-kinds.ps right-set-kinds.r right-set-reads.Pre right-set-reads.Post)
one_right_set κs a x y v w p q = (p.1 ∙ sym q.1, refl)
