-- Records that could be the front of a book. No contract uses this definition.
use Rattle.std.specs.Prelude.{ℕ, List, [], ◌∷◌, ◌++◌}
use Rattle.book.specs.Format.{end_kind}

-- the records with an end record after them; where that is an accepted book, they may stand at the front of another
abbrev pub closed : List ℕ → List ℕ
closed records = records ++ (end_kind ∷ [])
