-- Document 01, "The two automata": the sets, each given by the test that its states pass.
use Rattle.std.specs.Prelude.{ℕ, List, [], ◌∷◌, Bool, false, ◌&&◌, ◌||◌, eqb, length, take, drop}
use Rattle.book.specs.Format.{left_part, focus_part, right_part}
use Rattle.book.specs.Reading.{Arc, Book}
use Rattle.book.specs.Language.{any, opens, state_of, starts, ends, is_start, some_state}
use Rattle.book.specs.StateSets.{member, encode}

-- the states that pass
unfoldable pub set_of : Book → (ℕ → Bool) → ℕ
set_of b f = encode f (length b.states)

-- an arc from the set leads to s; an arc from s leads into the set
unfoldable pub into_by : Book → ℕ → ℕ → ℕ → Bool
into_by b X a s = any (λ (x : Arc). member X x.from && (opens x x.from a && eqb x.to s)) b.arcs

unfoldable pub back_by : Book → ℕ → ℕ → ℕ → Bool
back_by b X a s = any (λ (x : Arc). opens x s a && member X x.to) b.arcs

-- "The left set at i holds the left-part states reached at i by runs from a start state begun at any position up to i"
unfoldable pub left_first : Book → ℕ
left_first b = set_of b (starts b left_part)

unfoldable pub left_next : Book → ℕ → ℕ → ℕ
left_next b X a = set_of b (λ (s : ℕ). starts b left_part s || into_by b X a s)

-- "The right set at i holds the right-part states from which some word beginning at i leads to acceptance, and the focus states from which
-- a stretch i to k (k ≥ i) leads to acceptance with the right language of that rule holding at k": those that pass f, the right accepts,
-- and the focus accepts of the rules whose right starts are among these
abbrev pub near : Book → (ℕ → Bool) → ℕ → Bool
near b f s = f s || ends b right_part s

unfoldable pub closed : Book → (ℕ → Bool) → ℕ
closed b f = set_of b (λ (s : ℕ). near b f s || (ends b focus_part s && some_state b (λ (p : ℕ). is_start b (state_of b s).rule right_part p && near b f p)))

unfoldable pub right_last : Book → ℕ
right_last b = closed b (λ (s : ℕ). false)

unfoldable pub right_prev : Book → ℕ → ℕ → ℕ
right_prev b X a = closed b (back_by b X a)

-- the set after a tape, from the set X on; the set before a tape, from the set at its end
abbrev pub after : {S : Type 0} → (S → ℕ → S) → S → List ℕ → S
after next X [] = X
after next X (a ∷ w) = after next (next X a) w

abbrev pub before : {S : Type 0} → S → (S → ℕ → S) → List ℕ → S
before last prev [] = last
before last prev (a ∷ w) = prev (before last prev w) a

-- the left set at i, the right set at i
unfoldable pub left_at : Book → List ℕ → ℕ → ℕ
left_at b t i = after (left_next b) (left_first b) (take i t)

unfoldable pub right_at : Book → List ℕ → ℕ → ℕ
right_at b t i = before (right_last b) (right_prev b) (drop i t)
