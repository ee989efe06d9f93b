-- A part that IMPORT wrote, in a book: what its records give, and what it is that a book holds it. No contract uses these definitions.
use Rattle.std.specs.Prelude.{ℕ, ◌+◌, ◌-◌, ◌≤◌, ◌<◌, ◌≡◌, List, [], ◌∷◌, ◌++◌, Bool, false, ◌&&◌, length, take, get_or, ltb, leb, eqb}
use Rattle.book.specs.Format.{state_size}
use Rattle.book.specs.Reading.{State, Arc, Book}
use Rattle.book.specs.Language.{any, state_of}
use Rattle.att.specs.Text.{Said, arc, final, idx, names, flags, state_count, import_def}

abbrev pub part_arc : ℕ → List ℕ → Said → List Arc
part_arc first S (arc x y a) = record { from = first + idx S x; low = a; high = a; to = first + idx S y } ∷ []
part_arc first S (final x) = []

-- the arcs of the lines, over the states S
unfoldable pub part_arcs : ℕ → List ℕ → List Said → List Arc
part_arcs first S [] = []
part_arcs first S (l ∷ ls) = part_arc first S l ++ part_arcs first S ls

-- states with these flags, their records one after the other from `at` on
unfoldable pub part_states : ℕ → ℕ → ℕ → List ℕ → List State
part_states rule part at [] = []
part_states rule part at (f ∷ fs) = record { rule = rule; part = part; flags = f; place = at } ∷ part_states rule part (at + state_size) fs

-- the rule that a record after b belongs to
abbrev pub latest : Book → ℕ
latest b = length b.words - 1

-- the book with that part of its latest rule, its records from `at` on
abbrev pub with_part : Book → ℕ → ℕ → List Said → Book
with_part b at part ls = record {
  words = b.words;
  states = b.states ++ part_states (latest b) part at (flags ls (names ls));
  arcs = b.arcs ++ part_arcs (length b.states) (names ls) ls;
  first = b.first;
}

-- the state s belongs to that part of rule r
abbrev pub mine : Book → ℕ → ℕ → ℕ → Bool
mine b r part s = eqb (state_of b s).rule r && eqb (state_of b s).part part

-- the arc leaves one of n states from `first` on
abbrev pub leaves : ℕ → ℕ → Arc → Bool
leaves first n x = leb first x.from && ltb x.from (first + n)

-- a part of rule r of the book is what is written for the text's lines from the state `first` on, and nothing else
pub record Holds (b : Book) (r part first : ℕ) (ls : List Said) : Type 0 where
  pub room : first + state_count ls ≤ length b.states
  pub rule : (i : ℕ) → i < state_count ls → (state_of b (first + i)).rule ≡ r
  pub of : (i : ℕ) → i < state_count ls → (state_of b (first + i)).part ≡ part
  pub flag : (i : ℕ) → i < state_count ls → (state_of b (first + i)).flags ≡ get_or (flags ls (names ls)) i 0
  pub below : (s : ℕ) → s < first → mine b r part s ≡ false
  pub above : (s : ℕ) → first + state_count ls ≤ s → s < length b.states → mine b r part s ≡ false
  pub early : List Arc
  pub late : List Arc
  pub arcs : b.arcs ≡ early ++ (part_arcs first (names ls) ls ++ late)
  pub apart : any (leaves first (state_count ls)) early ≡ false
  pub aside : any (leaves first (state_count ls)) late ≡ false

-- the bytes that IMPORT wrote
abbrev pub import_bytes : List ℕ → ℕ → ℕ → List ℕ → List ℕ
import_bytes s part first out = take (import_def s part first out).answer.length (import_def s part first out).out
