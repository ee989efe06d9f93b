-- How the code steps a set: arc by arc, each arc read in either direction, and rule by rule for what the rules' masks give.
-- These serve the contracts of the inner functions; `Sets` says what the sets are.
use Rattle.std.specs.Prelude.{ℕ, zero, suc, ◌+◌, ◌-◌, ◌^◌, ◌≤◌, ◌<◌, ◌≡◌, List, [], ◌∷◌, map, Bool, true, cond, ◌&&◌, ◌||◌, leb, eqb, length, get_or}
use Rattle.std.specs.Int.Bits.{bit_or, bit_and}
use Rattle.book.specs.Format.{symbol_count, most_rules, most_states, arc_size, from_at, low_at, high_at, to_at, byte}
use Rattle.book.specs.Reading.{Arc}
use Rattle.book.specs.Outline.{left_starts, right_accepts, right_starts, focus_accepts}
use Rattle.book.specs.StateSets.{member}

-- the arc leaves a state of the set and is open to the symbol
abbrev pub leaves : ℕ → ℕ → Arc → Bool
leaves set a x = member set x.from && (leb x.low a && leb a x.high)

-- what one arc adds to the step of a set, and what all do
unfoldable pub hop_fold : Arc → ℕ → ℕ → ℕ
hop_fold x set a = cond (leaves set a x) (2 ^ x.to) 0

unfoldable pub step_fold : List Arc → ℕ → ℕ → ℕ
step_fold [] set a = 0
step_fold (x ∷ rest) set a = bit_or (hop_fold x set a) (step_fold rest set a)

-- the bytes of an arc's record that name a state: the state it comes from, the state it goes to
unfoldable pub is_end : ℕ → Bool
is_end p = eqb p from_at || eqb p to_at

abbrev pub end_of : ℕ → Arc → ℕ
end_of p x = cond (eqb p from_at) x.from x.to

-- an arc read from its byte p to its byte q: `from_at` and `to_at` forwards, `to_at` and `from_at` backwards
unfoldable pub turned : ℕ → ℕ → Arc → Arc
turned p q x = record { from = end_of p x; low = x.low; high = x.high; to = end_of q x }

-- the step of a set over all arcs, in that direction
unfoldable pub step_arcs : ℕ → ℕ → List Arc → ℕ → ℕ → ℕ
step_arcs p q arcs set a = step_fold (map (turned p q) arcs) set a

-- the record at `at` as an arc in that direction
abbrev pub arc_bytes : ℕ → ℕ → List ℕ → ℕ → Arc
arc_bytes p q s at = record { from = byte s (at + p); low = byte s (at + low_at); high = byte s (at + high_at); to = byte s (at + q) }

-- every state of x is in y
abbrev pub Within : ℕ → ℕ → Type 0
Within x y = bit_or x y ≡ y

-- what the records from a state's own on to the end of its rule give on one symbol: nothing that the arcs do not give to the set, and all that
-- they give to its states from that one up to and not including `next`
pub record SweptAll (p q : ℕ) (arcs : List Arc) (state set a out next : ℕ) : Type 0 where
  pub past : state < next
  pub within : Within out (step_arcs p q arcs set a)
  pub each : (t : ℕ) → state ≤ t → t < next → member set t ≡ true → Within (step_arcs p q arcs (2 ^ t) a) out

-- an arc's record is whole, its two ends name states that a set can hold, and it is open to no symbol past the last
pub record ArcStands (s : List ℕ) (at p q : ℕ) : Type 0 where
  pub whole : at + arc_size ≤ length s
  pub ends : (p < arc_size) × (q < arc_size)
  pub source : byte s (at + p) < most_states
  pub target : byte s (at + q) < most_states
  pub top : byte s (at + high_at) < symbol_count

-- a number on the symbols from low to high, and 0 on the others
unfoldable pub between : ℕ → ℕ → ℕ → ℕ → ℕ
between low high bit a = cond (leb low a && leb a high) bit 0

-- the row with `more` added on each symbol
pub record Added (more : ℕ → ℕ) (row row' : List ℕ) : Type 0 where
  pub long : length row' ≡ symbol_count
  pub each : (a : ℕ) → a < symbol_count → get_or row' a 0 ≡ bit_or (get_or row a 0) (more a)

-- from symbol n on the row has no step
pub record NoStepFrom (row : List ℕ) (n : ℕ) : Type 0 where
  pub few : n ≤ symbol_count
  pub none : (a : ℕ) → n ≤ a → a < symbol_count → get_or row a 0 ≡ 0

-- and the symbol before has one
pub record StepsEnd (row : List ℕ) (n : ℕ) : Type 0 where
  pub after : NoStepFrom row n
  pub last : 0 < n → get_or row (n - 1) 0 ≡ 0 → ⊥

-- what a rule gives to a set that meets its test, and what the first n rules give
abbrev pub joins : ℕ → ℕ → ℕ → ℕ
joins set test give = cond (eqb (bit_and set test) 0) 0 give

unfoldable pub gather : ℕ → ℕ → (ℕ → ℕ) → (ℕ → ℕ) → ℕ
gather zero set tests gives = 0
gather (suc n) set tests gives = bit_or (gather n set tests gives) (joins set (tests n) (gives n))

-- the step of a set on either side, `back` for the right one: along the arcs on the left, against them on the right
unfoldable pub side_arcs : Bool → List Arc → ℕ → ℕ → ℕ
side_arcs back arcs set a = cond back (step_arcs to_at from_at arcs set a) (step_arcs from_at to_at arcs set a)

-- what becomes of such a step: the left starts are added; or the right accepts, and what the rules' masks then give
unfoldable pub close_by : List ℕ → Bool → ℕ → ℕ
close_by masks back x =
    cond back
    (bit_or (bit_or (get_or masks right_accepts 0) x)
    (gather most_rules (bit_or (get_or masks right_accepts 0) x) (λ r. get_or masks (right_starts r) 0) (λ r. get_or masks (focus_accepts r) 0)))
    (bit_or (get_or masks left_starts 0) x)
