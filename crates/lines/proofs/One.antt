-- The contract of `account_ready` determines the answer and the lines. Assumes nothing.
use Rattle.std.proofs.Common.{sym, ◌∙◌}
use Rattle.book.specs.Determined.{Determined, Called}
use Rattle.lines.proofs.Results.{accounted_one}
use Rattle.lines.proofs.account_ready.Kinds as ready-kinds
use Rattle.lines.proofs.account_ready.Reads as ready-reads

pub one_ready : Determined 3 ready-kinds.ps ready-kinds.r (Called 3 ready-kinds.ps ready-kinds.r ready-reads.Pre ready-reads.Post)
one_ready κs a x y v w p q =
    let e = p.1 ∙ sym q.1 in
    (accounted_one x y (λ i. (e i).answer), λ i. (tt, ((e i).lines, tt)))
