-- The constant is `house` byte by byte, and `house` is accepted. Assumes nothing.
use mathlib.Core.Path.{refl, ap}
use Rattle.book.specs.declared.Checked.{Checked}
use Rattle.book.specs.House.{house, house_accepted}
use Rattle.house.proofs.house_book.Goals as goal

pub returns : goal.returns
unfolding house
returns c =
    record {
      value = refl;
      result_value = ap (λ (r : Checked). r.reply) house_accepted;
    }
