-- The forward passes: how much a tape can give, and what is written into both outputs.
use Rattle.std.specs.Prelude.{ℕ, ◌+◌, ◌*◌, max, ◌≤◌, ◌<◌, ◌≡◌, List, map, cond, eqb, leb, length, Result, Ok, Err}
use Rattle.book.specs.Reading.{book_of}
use Rattle.book.specs.Language.{Rules, rules_in}
use Rattle.book.specs.declared.replies.Reason.TheVariants.{NoRoom}
use Rattle.book.specs.declared.replies.Refusal.{Refusal}
use Rattle.sets.specs.Sets.{left_at}
use Rattle.sets.specs.Tables.{left_count, left_set}
use Rattle.stretches.specs.Buffers.{longest_tape}
use Rattle.stretches.specs.Candidates.{taken}
use Rattle.stretches.specs.Output.{Mark, rewriting, symbols_of, origins_of}
use Rattle.stretches.specs.Position.{takes_at, end_next}
use Rattle.stretches.specs.Lists.{put, greatest}
use Rattle.stretches.specs.declared.pass.Pass.{Pass}
use Rattle.output.specs.declared.Size.{Size}
use Rattle.output.specs.declared.words.Outputs.{Outputs}
use Rattle.output.specs.declared.passes.Spot.{Spot}

-- the rules that a pass rewrites by, and the tape that it goes along
abbrev pub by : Pass → Rules
by p = rules_in p.walk.outline.states.book.now

abbrev pub along : Pass → List ℕ
along p = p.walk.tape.now

-- how many symbols the longest word has
unfoldable pub longest_in : Rules → ℕ
longest_in b = greatest 0 (map length b.words)

-- no output of n symbols is longer, where no word has more than `word`: at each position, the tape's end among them, a word, and each symbol
abbrev pub most_output : ℕ → ℕ → ℕ
most_output n word = n * (word + 1) + word

-- where no focus is empty: for each symbol a word, or itself
abbrev pub most_replaced : ℕ → ℕ → ℕ
most_replaced n word = n * max 1 word

-- of the two the one that holds; x is what the focus starts and the focus accepts of all rules have in common
abbrev pub longest_for : ℕ → ℕ → ℕ → ℕ
longest_for x n word = cond (eqb x 0) (most_replaced n word) (most_output n word)

-- the two counts of the whole tape
pub record Sized (b : Rules) (t : List ℕ) (s : Size) : Type 0 where
  pub lens : s.length ≡ length (rewriting b t)
  pub many : s.taken ≡ length (taken b t)

-- "15: an output buffer shorter than the output; symbols needed"
unfoldable pub fits_in : Rules → List ℕ → ℕ → Result (Unit {0}) Refusal
fits_in b t room = cond (leb (length (rewriting b t)) room) (Ok tt) (Err (record { reason = NoRoom; place = length (rewriting b t) }))

-- marks fit both buffers from where they are filled
pub record MarksFit (ms : List Mark) (o : Outputs) : Type 0 where
  pub outs : o.at + length ms ≤ length o.out.now
  pub orgs : o.at + length ms ≤ length o.origins.now

-- they are written there, and the buffers are still those two
pub record MarksPut (ms : List Mark) (o o' : Outputs) : Type 0 where
  pub next : o'.at ≡ o.at + length ms
  pub outs : o'.out.now ≡ put o.out.now o.at (symbols_of ms)
  pub orgs : o'.origins.now ≡ put o.origins.now o.at (origins_of ms)
  pub same_out : o'.out.ghost_name ≡ o.out.ghost_name
  pub same_origins : o'.origins.ghost_name ≡ o.origins.ghost_name

-- a pass stands before position i: it has the number of the left set there, and the count of stretches does not wrap
pub record Standing (p : Pass) (i : ℕ) (s : Spot) : Type 0 where
  pub below : s.left < left_count p.walk.outline.states.book.now
  pub is : left_set p.walk.sets.now s.left ≡ left_at (book_of p.walk.outline.states.book.now) (along p) i
  pub few : s.taken ≤ longest_tape + 1

-- position i is done, where the last stretch before it ends at `end`
pub record Moved (p : Pass) (i end : ℕ) (s s' : Spot) : Type 0 where
  pub ends : s'.end ≡ end_next (by p) (along p) i end
  pub many : s'.taken ≡ s.taken + length (takes_at (by p) (along p) i end)
