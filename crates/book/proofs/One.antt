-- The contracts of the public functions determine what they give; those of the outline are called with an accepted book. Assumes nothing.
use mathlib.Core.Path.{refl, sym, ◌∙◌}
use Rattle.book.specs.Determined.{Determined, Called}
use Rattle.book.proofs.OneMasks.{one_masks}
use Rattle.book.proofs.Refusals.{checked_one}
use Rattle.book.proofs.read.Kinds as read-kinds
use Rattle.book.proofs.read.Reads as read-reads
use Rattle.book.proofs.check.Kinds as check-kinds
use Rattle.book.proofs.check.Reads as check-reads
use Rattle.book.proofs.replies.Reason.number.Kinds as number-kinds
use Rattle.book.proofs.replies.Reason.number.Reads as number-reads
use Rattle.book.proofs.replies.Reason.at.Kinds as at-kinds
use Rattle.book.proofs.replies.Reason.at.Reads as at-reads
use Rattle.book.proofs.record_size.Kinds as size-kinds
use Rattle.book.proofs.record_size.Reads as size-reads
use Rattle.book.proofs.outline.place_rules.Kinds as rules-kinds
use Rattle.book.proofs.outline.place_rules.Reads as rules-reads
use Rattle.book.proofs.outline.word_length.Kinds as word-kinds
use Rattle.book.proofs.outline.word_length.Reads as word-reads
use Rattle.book.proofs.outline.outline_of.Kinds as outline-kinds
use Rattle.book.proofs.outline.outline_of.Reads as outline-reads

-- CHECK: the answer
pub one_result : Determined 1 check-kinds.ps check-kinds.r check-reads.Post
one_result κs a x y v w p q = (p ∙ sym q, refl)

-- the result: its reason and place, or its counts
pub one_read : Determined 1 read-kinds.ps read-kinds.r read-reads.Post
one_read κs a x y v w p q = (checked_one _ _ (p ∙ sym q), refl)

-- a reason's number, and its refusal at a place
pub one_number : Determined 0 number-kinds.ps number-kinds.r number-reads.Post
one_number κs a x y v w p q = (p ∙ sym q, refl)

pub one_refusal : Determined 0 at-kinds.ps at-kinds.r at-reads.Post
one_refusal κs a x y v w p q = (p ∙ sym q, refl)

pub one_size : Determined 0 size-kinds.ps size-kinds.r size-reads.Post
one_size κs a x y v w p q = (p ∙ sym q, refl)

pub one_rules : Determined 2 rules-kinds.ps rules-kinds.r (Called 2 rules-kinds.ps rules-kinds.r rules-reads.Pre rules-reads.Post)
one_rules κs a x y v w p q = let e = p.1 ∙ sym q.1 in (refl, λ i. (tt, (e i, tt)))

pub one_word : Determined 1 word-kinds.ps word-kinds.r (Called 1 word-kinds.ps word-kinds.r word-reads.Pre word-reads.Post)
one_word κs a x y v w p q = (p.1 ∙ sym q.1, refl)

-- every place and every mask
pub one_outline : Determined 3 outline-kinds.ps outline-kinds.r (Called 3 outline-kinds.ps outline-kinds.r outline-reads.Pre outline-reads.Post)
one_outline κs a x y v w p q =
    let places = p.1.0 ∙ sym q.1.0 in
    let masks = one_masks _ _ _ p.1.1 q.1.1 in
    (refl, λ i. (tt, (places i, (masks i, tt))))
