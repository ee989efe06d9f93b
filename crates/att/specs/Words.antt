-- The words of a text, as OpenFst reads it: a path from the first line's first state to a final state spells the word, label k being symbol k - 1.
use Rattle.std.specs.Prelude.{ℕ, List, [], ◌∷◌, Bool, false, ◌&&◌, eqb}
use Rattle.book.specs.Language.{any}
use Rattle.att.specs.Text.{Said, arc, final, is_final}

-- the line is an arc from p that reads a, and `go` holds of where it leads
abbrev pub through : Said → ℕ → ℕ → (ℕ → Bool) → Bool
through (arc x y b) p a go = (eqb x p && eqb b a) && go y
through (final x) p a go = false

-- from the state p the word leads to a final state
unfoldable pub text_from : List Said → List ℕ → ℕ → Bool
text_from ls [] p = is_final ls p
text_from ls (a ∷ w) p = any (λ (l : Said). through l p a (text_from ls w)) ls

abbrev pub first_state : Said → ℕ
first_state (arc x y a) = x
first_state (final x) = x

-- "The first line's first state is the start"; an empty text has no word
unfoldable pub text_words : List Said → List ℕ → Bool
text_words [] w = false
text_words (l ∷ ls) w = text_from (l ∷ ls) w (first_state l)
