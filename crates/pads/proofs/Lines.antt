-- A line of numbers is put number by number. Assumes nothing.
use Rattle.std.proofs.Common.{ℕ, ◌+◌, ◌<◌, ◌≡◌, ◌∙◌, List, length, get_or, drop, decimal}
use Rattle.std.proofs.lemmas.List.{at_drop_more}
use Rattle.text.specs.Text.{Text, put_one, put_all}
use Rattle.text.proofs.Putting.{all_append}
use Rattle.pads.specs.Lines.{numbers_line}

pub next_number : (t : Text) (xs : List ℕ) (i : ℕ) → i < length xs
    → put_all t (numbers_line (drop i xs)) ≡ put_all (put_all (put_one t 32) (decimal (get_or xs i 0))) (numbers_line (drop (i + 1) xs))
unfolding put_all
next_number t xs i h =
    at_drop_more (λ (l : List ℕ). put_all t (numbers_line l)) xs i 0 h ∙ all_append (put_one t 32) (decimal (get_or xs i 0)) (numbers_line (drop (i + 1) xs))
