-- A symbol that a book does not use (document 02, No. 6 and No. 8), and what that makes of its rules: none looks across it. No contract uses these.
use Rattle.std.specs.Prelude.{ℕ, List, ◌∷◌, ◌++◌, Bool, false, not, ◌≡◌}
use Rattle.book.specs.Reading.{Arc, Book}
use Rattle.book.specs.Language.{any, open_to, Rules}

-- the symbol is on the arc: the arc is open to it
abbrev pub on_arc : ℕ → Arc → Bool
on_arc m x = open_to x m

-- "a valid symbol is on no arc of the book": of any part of any rule
unfoldable pub on_no_arc : Book → ℕ → Bool
on_no_arc b m = not (any (on_arc m) b.arcs)

-- no rule looks across m
pub record Blind (m : ℕ) (b : Rules) : Type 0 where
  -- a left context does not see what stands before m
  pub left : (r : ℕ) (x y : List ℕ) → b.left r (x ++ (m ∷ y)) ≡ b.left r y
  -- no focus has it
  pub focus : (r : ℕ) (x y : List ℕ) → b.focus r (x ++ (m ∷ y)) ≡ false
  -- a right context does not see what stands after it
  pub right : (r : ℕ) (x y : List ℕ) → b.right r (x ++ (m ∷ y)) ≡ b.right r x
