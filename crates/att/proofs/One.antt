-- The contracts of IMPORT determine the answer and every byte of the output. Assumes nothing.
use mathlib.Core.Path.{sym, ◌∙◌}
use Rattle.book.specs.Determined.{Determined}
use Rattle.att.proofs.Results.{written_same}
use Rattle.att.proofs.import.Kinds as import-kinds
use Rattle.att.proofs.import.Reads as import-reads
use Rattle.att.proofs.try_import.Kinds as try-kinds
use Rattle.att.proofs.try_import.Reads as try-reads

pub one_import : Determined 2 import-kinds.ps import-kinds.r import-reads.Post
one_import κs a x y v w p q = let e = p ∙ sym q in (λ i. (e i).answer, λ i. (tt, (tt, (tt, ((e i).out, tt)))))

pub one_try : Determined 2 try-kinds.ps try-kinds.r try-reads.Post
one_try κs a x y v w p q = let e = p ∙ sym q in (written_same x y (λ i. (e i).answer), λ i. (tt, (tt, (tt, ((e i).out, tt)))))
