-- What the theorems speak of besides: a record of a list, the room that lanes have used; and of document 02, No. 2: "Where no two lanes overlap, a
-- change to one tape changes other lanes only through the place and room of later ones."
use Rattle.std.specs.Prelude.{ℕ, ◌+◌, ◌≤◌, ◌≡◌, ◌⊎◌, cond, List, [], ◌∷◌, eqb, length, take, drop}
use Rattle.book.specs.Language.{rules_in}
use Rattle.stretches.specs.Output.{rewriting, symbols_of, origins_of}
use Rattle.heat.specs.declared.Lane.{Lane}
use Rattle.heat.specs.Lanes.{tape_of, Leaving}

-- what is read where a list has no record
pub no_lane : Lane
no_lane = record { start = 0; length = 0; out = 0; taken = 0; reply = 0; place = 0 }

-- two common buffers that differ at most in the stretch of the lane m
pub record Elsewhere (t t' : List ℕ) (m : Lane) : Type 0 where
  pub same_length : length t ≡ length t'
  pub before : take m.start t ≡ take m.start t'
  pub behind : drop (m.start + m.length) t ≡ drop (m.start + m.length) t'

-- the lanes l and m do not overlap
abbrev pub Apart : Lane → Lane → Type 0
Apart m l = (l.start + l.length ≤ m.start) ⊎ (m.start + m.length ≤ l.start)

-- the lane m overlaps none of these
pub data AllApart (m : Lane) : List Lane → Type 0 where
  none : AllApart m []
  both : {l : Lane} {ls : List Lane} → Apart m l → AllApart m ls → AllApart m (l ∷ ls)

-- room for n symbols in what is left of both outputs
pub record RoomFor (n : ℕ) (s : Leaving) : Type 0 where
  pub in_out : s.used + n ≤ length s.out
  pub in_origins : s.used + n ≤ length s.origins

-- a lane's reply but for the room: 15, which the room alone decides, is read as 0
abbrev pub class : ℕ → ℕ
class reply = cond (eqb reply 15) 0 reply

-- what a lane with room writes: the symbols and the origins of its tape's rewriting
abbrev pub written_of : List ℕ → List ℕ → Lane → List ℕ
written_of book tapes l = symbols_of (rewriting (rules_in book) (tape_of tapes l))

abbrev pub written_origins : List ℕ → List ℕ → Lane → List ℕ
written_origins book tapes l = origins_of (rewriting (rules_in book) (tape_of tapes l))

-- the room that lanes have used: their output lengths together
unfoldable pub used : List Lane → ℕ
used [] = 0
used (l ∷ ls) = l.out + used ls
