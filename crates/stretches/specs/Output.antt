-- Document 01: "The output replaces each taken stretch by its rule's word and keeps the rest. Each output symbol has a 16-bit origin: a kept
-- symbol its own position, every symbol of a replacement the start of the stretch", and since document 02, No. 4: "When a replacement has two or
-- more symbols, the last one's origin is the last position of the stretch; the others keep the start."
use Rattle.std.specs.Prelude.{ℕ, suc, ◌-◌, max, List, [], ◌∷◌, ◌++◌, cond, ◌&&◌, eqb, ltb, length, get_or}
use Rattle.book.specs.Language.{Rules}
use Rattle.stretches.specs.Candidates.{Stretch, rule_of, over_tape}

-- an output symbol with its origin
pub record Mark : Type 0 where
  pub symbol : ℕ
  pub origin : ℕ

-- symbols with one origin
abbrev pub marks : List ℕ → ℕ → List Mark
marks [] o = []
marks (x ∷ xs) o = record { symbol = x; origin = o } ∷ marks xs o

-- "a kept symbol its own position"
abbrev pub kept_marks : List ℕ → ℕ → List Mark
kept_marks x i = marks x i

-- "the last position of the stretch", here from i to j; of an empty one its own position
abbrev pub last_position : ℕ → ℕ → ℕ
last_position i j = max i (j - 1)

-- "When a replacement has two or more symbols, the last one's origin is the last position of the stretch; the others keep the start": of symbol k,
-- counted from 0, of n symbols for the stretch from i to j
abbrev pub word_origin : ℕ → ℕ → ℕ → ℕ → ℕ
word_origin n i j k = cond (ltb 1 n && eqb (suc k) n) (last_position i j) i

-- the symbols of a replacement, from symbol k of n on, with their origins
abbrev pub marks_from : ℕ → ℕ → ℕ → ℕ → List ℕ → List Mark
marks_from n i j k [] = []
marks_from n i j k (x ∷ xs) = record { symbol = x; origin = word_origin n i j k } ∷ marks_from n i j (suc k) xs

-- all of them: the word w for the stretch from i to j
abbrev pub word_marks : List ℕ → ℕ → ℕ → List Mark
word_marks w i j = marks_from (length w) i j 0 w

-- "its rule's word"
abbrev pub rule_word : Rules → ℕ → List ℕ
rule_word b r = get_or b.words r []

-- the word that stands for the stretch from i to j
abbrev pub written : Rules → List ℕ → ℕ → ℕ → List Mark
written b t i j = word_marks (rule_word b (rule_of b t i j)) i j

-- what is written at i: nothing strictly inside a stretch; else the word of a stretch that is taken here, then the symbol where the stretch
-- does not cover it
abbrev pub written_at : Rules → List ℕ → ℕ → List ℕ → Stretch → List Mark
written_at b t i x d = cond (ltb d.start i) [] (cond d.taken (written b t d.start d.end) [] ++ cond (ltb i d.end) [] (kept_marks x i))

unfoldable pub rewriting : Rules → List ℕ → List Mark
rewriting b t = over_tape (written_at b t) b t

-- the output, and its origins
abbrev pub symbols_of : List Mark → List ℕ
symbols_of [] = []
symbols_of (m ∷ ms) = m.symbol ∷ symbols_of ms

abbrev pub origins_of : List Mark → List ℕ
origins_of [] = []
origins_of (m ∷ ms) = m.origin ∷ origins_of ms
