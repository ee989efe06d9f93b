-- The contracts of REWRITE, ACCOUNT and SHOW determine what they give and leave, and so do those of `bounds_of`, by which C gets SHOW, and of
-- `rewrite_built`, by which a heat gets REWRITE. Assumes nothing.
use mathlib.Core.Path.{sym, ◌∙◌, refl}
use Rattle.book.specs.Determined.{Determines, Determined, Called, SamePart}
use Rattle.rewriter.proofs.rewrite.Kinds as rewrite-kinds
use Rattle.rewriter.proofs.rewrite.Reads as rewrite-reads
use Rattle.rewriter.proofs.rewrite_built.Kinds as built-kinds
use Rattle.rewriter.proofs.rewrite_built.Reads as built-reads
use Rattle.output.proofs.Results.{rewritten_one}
use Rattle.lines.proofs.Results.{accounted_one}
use Rattle.rewriter.proofs.try_rewrite.Kinds as try_rewrite-kinds
use Rattle.rewriter.proofs.try_rewrite.Reads as try_rewrite-reads
use Rattle.rewriter.proofs.try_account.Kinds as try_account-kinds
use Rattle.rewriter.proofs.try_account.Reads as try_account-reads
use Rattle.rewriter.proofs.account.Kinds as account-kinds
use Rattle.rewriter.proofs.account.Reads as account-reads
use Rattle.rewriter.proofs.shown.show.Kinds as show-kinds
use Rattle.rewriter.proofs.shown.show.Reads as show-reads
use Rattle.rewriter.proofs.shown.bounds_of.Kinds as bounds-kinds
use Rattle.rewriter.proofs.shown.bounds_of.Reads as bounds-reads

-- the answer, rows, sets, scratch, output and origins
pub one_rewrite : Determined 7 rewrite-kinds.ps rewrite-kinds.r rewrite-reads.Post
one_rewrite κs a x y v w p q =
    let e = p ∙ sym q in
    (λ i. (e i).answer, λ i. (tt, (tt, ((e i).rows, ((e i).sets, ((e i).scratch, ((e i).out, ((e i).origins, tt))))))))

-- the answer, scratch, output and origins, where it is called over what BUILD left
pub one_built : Determined 7 built-kinds.ps built-kinds.r (Called 7 built-kinds.ps built-kinds.r built-reads.Pre built-reads.Post)
one_built κs a x y v w p q =
    let e = p.1 ∙ sym q.1 in
    (rewritten_one _ _ (λ i. (e i).answer), λ i. (tt, (tt, (tt, (tt, (tt, ((e i).scratch, ((e i).out, ((e i).origins, tt)))))))))

-- the same of the two as results
pub one_try_rewrite : Determined 7 try_rewrite-kinds.ps try_rewrite-kinds.r try_rewrite-reads.Post
one_try_rewrite κs a x y v w p q =
    let e = p ∙ sym q in
    (rewritten_one _ _ (λ i. (e i).answer), λ i. (tt, (tt, ((e i).rows, ((e i).sets, ((e i).scratch, ((e i).out, ((e i).origins, tt))))))))

pub one_try_account : Determined 6 try_account-kinds.ps try_account-kinds.r try_account-reads.Post
one_try_account κs a x y v w p q =
    let e = p ∙ sym q in
    (accounted_one _ _ (λ i. (e i).answer), λ i. (tt, (tt, ((e i).rows, ((e i).sets, ((e i).scratch, ((e i).lines, tt)))))))

-- the answer, rows, sets, scratch and lines
pub one_account : Determined 6 account-kinds.ps account-kinds.r account-reads.Post
one_account κs a x y v w p q =
    let e = p ∙ sym q in
    (λ i. (e i).answer, λ i. (tt, (tt, ((e i).rows, ((e i).sets, ((e i).scratch, ((e i).lines, tt)))))))

-- where in the tape the part begins, and what stands in it
pub one_show : Determines 2 show-kinds.ps show-kinds.r (λ κs. SamePart) show-reads.Post
one_show κs a x y v w p q =
    let block = p.1.0 ∙ sym q.1.0 in
    let offset = p.1.1 ∙ sym q.1.1 in
    (record { place = λ i. (block i, offset i); elements = p.0 ∙ sym q.0 }, refl)

-- the stretch's bounds
pub one_bounds : Determined 1 bounds-kinds.ps bounds-kinds.r bounds-reads.Post
one_bounds κs a x y v w p q = (p.0 ∙ sym q.0, refl)
