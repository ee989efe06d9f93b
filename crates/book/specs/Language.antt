-- What a book says: its words, and for each rule the languages of its three parts.
use Rattle.std.specs.Prelude.{ℕ, zero, suc, List, [], ◌∷◌, Bool, false, ◌&&◌, ◌||◌, eqb, leb, length, get_or}
use Rattle.book.specs.Format.{left_part, focus_part, right_part, start_flag, accept_flag, both_flags}
use Rattle.book.specs.Reading.{State, Arc, Book, book_of}

-- some element passes the test
abbrev pub any {ℓ} : {A : Type ℓ} → (A → Bool) → List A → Bool
any p [] = false
any p (x ∷ xs) = p x || any p xs

-- the numbers from a, n of them
abbrev pub up_from : ℕ → ℕ → List ℕ
up_from a zero = []
up_from a (suc n) = a ∷ up_from (suc a) n

-- "An arc is open to each symbol from lowest to highest"
abbrev pub open_to : Arc → ℕ → Bool
open_to x a = leb x.low a && leb a x.high

-- the arc leaves p and is open to a
abbrev pub opens : Arc → ℕ → ℕ → Bool
opens x p a = eqb x.from p && open_to x a

-- the word leads from the state p to the state q
unfoldable pub leads : List Arc → ℕ → List ℕ → ℕ → Bool
leads arcs p [] q = eqb p q
leads arcs p (a ∷ w) q = any (λ (x : Arc). opens x p a && leads arcs x.to w q) arcs

-- the state k of the book; where there is none, one that neither starts nor accepts
abbrev pub no_state : State
no_state = record { rule = 0; part = left_part; flags = 0; place = 0 }

abbrev pub state_of : Book → ℕ → State
state_of b k = get_or b.states k no_state

-- "flags (1 start, 2 accept, 3 both, 0 neither)": the flags are that flag, start or accept, or both
unfoldable pub flagged : ℕ → ℕ → Bool
flagged flag flags = (eqb flag start_flag || eqb flag accept_flag) && (eqb flags flag || eqb flags both_flags)

-- a state of that part with that flag
abbrev pub is_of : ℕ → ℕ → State → Bool
is_of part flag st = eqb st.part part && flagged flag st.flags

abbrev pub starts : Book → ℕ → ℕ → Bool
starts b part s = is_of part start_flag (state_of b s)

abbrev pub ends : Book → ℕ → ℕ → Bool
ends b part s = is_of part accept_flag (state_of b s)

-- s starts, accepts in that part of rule r
unfoldable pub is_start : Book → ℕ → ℕ → ℕ → Bool
is_start b r part s = eqb (state_of b s).rule r && starts b part s

unfoldable pub is_accept : Book → ℕ → ℕ → ℕ → Bool
is_accept b r part s = eqb (state_of b s).rule r && ends b part s

-- some state passes
abbrev pub some_state : Book → (ℕ → Bool) → Bool
some_state b f = any f (up_from 0 (length b.states))

-- the word is in the language of a part of a rule; "a part without states accepts no word"
unfoldable pub accepts : Book → ℕ → ℕ → List ℕ → Bool
accepts b r part w = some_state b (λ (p : ℕ). is_start b r part p && some_state b (λ (q : ℕ). is_accept b r part q && leads b.arcs p w q))

-- some word at the end of w passes
abbrev pub some_end : (List ℕ → Bool) → List ℕ → Bool
some_end f [] = f []
some_end f (a ∷ w) = f (a ∷ w) || some_end f w

-- some word at the front of w passes
abbrev pub some_front : (List ℕ → Bool) → List ℕ → Bool
some_front f [] = f []
some_front f (a ∷ w) = f [] || some_front (λ (u : List ℕ). f (a ∷ u)) w

-- all that a rewriting asks of a book: the words, and for each rule whether its left context holds after a word, a word is a focus,
-- its right context holds before a word
pub record Rules : Type 0 where
  pub words : List (List ℕ)
  pub left : ℕ → List ℕ → Bool
  pub focus : ℕ → List ℕ → Bool
  pub right : ℕ → List ℕ → Bool

abbrev pub rules : Book → Rules
rules b = record {
  words = b.words;
  left = λ (r : ℕ). some_end (accepts b r left_part);
  focus = λ (r : ℕ). accepts b r focus_part;
  right = λ (r : ℕ). some_front (accepts b r right_part);
}

-- what the bytes of an accepted book say
abbrev pub rules_in : List ℕ → Rules
rules_in s = rules (book_of s)
