-- The book of crates/cases/src/books.rt that follows from the number of symbols: one or more of any symbol become nothing, with no condition on either side.
use Rattle.std.specs.Prelude.{ℕ, ◌-◌, List, [], ◌∷◌}
use Rattle.book.specs.Format.{symbol_count}

-- the last symbol
abbrev last : ℕ
last = symbol_count - 1

abbrev pub long_book : List ℕ
long_book =
    1 ∷ 0 ∷ 0 ∷ 0 ∷ 0 ∷ 0 ∷ 0 ∷ 0 ∷ 0 ∷ 0 ∷
    2 ∷ 0 ∷ 3 ∷
    2 ∷ 1 ∷ 1 ∷
    2 ∷ 1 ∷ 2 ∷
    2 ∷ 2 ∷ 3 ∷
    3 ∷ 1 ∷ 0 ∷ last ∷ 2 ∷
    3 ∷ 2 ∷ 0 ∷ last ∷ 2 ∷
    4 ∷
    []
