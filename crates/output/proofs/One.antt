-- The contract of `rewrite_ready` determines the answer, the output and the origins. Assumes nothing.
use Rattle.std.proofs.Common.{sym, ◌∙◌}
use Rattle.book.specs.Determined.{Determined}
use Rattle.output.proofs.Results.{rewritten_one}
use Rattle.output.proofs.rewrite_ready.Kinds as ready-kinds
use Rattle.output.proofs.rewrite_ready.Reads as ready-reads

pub one_ready : Determined 4 ready-kinds.ps ready-kinds.r ready-reads.Post
one_ready κs a x y v w p q =
    let e = p ∙ sym q in
    (rewritten_one x y (λ i. (e i).answer), λ i. (tt, ((e i).out, ((e i).origins, tt))))
