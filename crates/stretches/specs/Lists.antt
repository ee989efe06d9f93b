-- A list written into another, and the greatest number of a list: for the contracts of inner functions.
use Rattle.std.specs.Prelude.{ℕ, ◌+◌, max, List, [], ◌∷◌, ◌++◌, length, take, drop}

-- l with v in the place of as many elements from p on
abbrev pub put : List ℕ → ℕ → List ℕ → List ℕ
put l p v = take p l ++ v ++ drop (p + length v) l

-- the greatest of n and the numbers of a list
unfoldable pub greatest : ℕ → List ℕ → ℕ
greatest n [] = n
greatest n (x ∷ xs) = greatest (max n x) xs
