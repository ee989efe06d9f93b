-- What holds of every accepted book: counts, ranges of the fields, and where an arc's states stand.
use Rattle.std.specs.Prelude.{ℕ, ◌+◌, ◌≤◌, ◌<◌, ◌≡◌, List, [], length, get_or}
use Rattle.book.specs.Format.{symbol_count, most_rules, most_states, most_arcs, longest_word, right_part, both_flags}
use Rattle.book.specs.Reading.{State, Arc, Book}
use Rattle.book.specs.Language.{state_of}

abbrev pub no_arc : Arc
no_arc = record { from = 0; low = 0; high = 0; to = 0 }

abbrev pub arc_of : Book → ℕ → Arc
arc_of b j = get_or b.arcs j no_arc

abbrev pub word_of : Book → ℕ → List ℕ
word_of b r = get_or b.words r []

pub record WordFits (w : List ℕ) : Type 0 where
  pub short : length w ≤ longest_word
  pub symbols : (i : ℕ) → i < length w → get_or w i 0 < symbol_count

pub record StateFits (st : State) : Type 0 where
  pub part : st.part ≤ right_part
  pub flags : st.flags ≤ both_flags

pub record ArcFits (b : Book) (a : Arc) : Type 0 where
  pub order : a.low ≤ a.high
  pub top : a.high < symbol_count
  pub from : a.from < length b.states
  pub to : a.to < length b.states
  pub part : (state_of b a.from).part ≡ (state_of b a.to).part
  pub rule : (state_of b a.from).rule ≡ (state_of b a.to).rule

pub record Sound (b : Book) : Type 0 where
  pub rules : length b.words ≤ most_rules
  pub states : length b.states ≤ most_states
  pub arcs : length b.arcs ≤ most_arcs
  pub word : (r : ℕ) → r < length b.words → WordFits (word_of b r)
  pub state : (k : ℕ) → k < length b.states → StateFits (state_of b k)
  pub rule : (k : ℕ) → k < length b.states → (state_of b k).rule < length b.words
  pub latest : (k : ℕ) → b.first ≤ k → k < length b.states → (state_of b k).rule + 1 ≡ length b.words
  pub first : b.first ≤ length b.states
  pub arc : (j : ℕ) → j < length b.arcs → ArcFits b (arc_of b j)
