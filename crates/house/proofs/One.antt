-- The contract of `house_book` determines its bytes. Assumes nothing.
use mathlib.Core.Path.{refl, sym, ◌∙◌}
use Rattle.book.specs.Determined.{Determined}
use Rattle.house.proofs.house_book.Kinds as house-kinds
use Rattle.house.proofs.house_book.Reads as house-reads

pub one_house : Determined 0 house-kinds.ps house-kinds.r house-reads.Post
one_house κs a x y v w p q = (p.0 ∙ sym q.0, refl)
