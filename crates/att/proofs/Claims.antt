-- The theorems about IMPORT, on one page. (The contract determines the result: One.antt.) A front is records to which an end record is all that an
-- accepted book lacks; b is that book. The text is s, and its lines are `lines_in (read_text s)`.
use Prim.Native.Nat.{ℕ, ◌+◌, ◌≤◌, ◌<◌}
use mathlib.Core.Path.{◌≡◌}
use mathlib.Core.List.{List, ◌++◌}
use mathlib.Core.Bool.{false}
use lib.ListN.{length}
use Rattle.book.specs.Format.{most_arcs}
use Rattle.book.specs.Reading.{Book, accepted, read_book}
use Rattle.book.specs.Language.{accepts}
use Rattle.book.specs.Sound.{arc_of}
use Rattle.book.specs.Fronts.{closed}
use Rattle.att.specs.Text.{Said, refused, read_text, lines_in, arc_count, state_count, import_def}
use Rattle.att.specs.Words.{text_words}
use Rattle.att.specs.Placed.{latest, with_part, mine, leaves, Holds, import_bytes}
use Rattle.att.proofs.Words as Words
use Rattle.att.proofs.Taking as Taking
use Rattle.att.proofs.Joining as Joining

-- "The accepted words are exactly the text's, proved once for the three parts": of every book that holds the part
pub words : (b : Book) (r part first : ℕ) (ls : List Said) → Holds b r part first ls → (w : List ℕ) → accepts b r part w ≡ text_words ls w
words = Words.words

-- no text is refused with 0
pub refused_some : (s : List ℕ) (r p : ℕ) → read_text s ≡ refused r p → r ≡ 0 → ⊥
refused_some = Taking.refused_some

module _ (front : List ℕ) (b : Book) (e : read_book (closed front) ≡ accepted b) (s : List ℕ) (part : ℕ) (out : List ℕ)
    (z : (import_def s part (length b.states) out).answer.reply ≡ 0) (room : length b.arcs + arc_count (lines_in (read_text s)) ≤ most_arcs) where
  abbrev lines : List Said
  lines = lines_in (read_text s)

  abbrev bytes : List ℕ
  bytes = import_bytes s part (length b.states) out

  -- the front, IMPORT's bytes and an end record are an accepted book: b, and the part
  pub import_accepted : read_book (closed (front ++ bytes)) ≡ accepted (with_part b (length front) part lines)
  import_accepted = Joining.import_accepted front b e s part out z room

  -- every other part of it means what it meant
  pub import_keeps : (r k : ℕ) → (r ≡ latest b → k ≡ part → ⊥) → (w : List ℕ) → accepts (with_part b (length front) part lines) r k w ≡ accepts b r k w
  import_keeps = Joining.import_keeps front b e s part out z room

  -- where the latest rule had no state of that part
  module _ (none : (k : ℕ) → k < length b.states → mine b (latest b) part k ≡ false) where
    -- its words are the text's
    pub import_words : (w : List ℕ) → accepts (with_part b (length front) part lines) (latest b) part w ≡ text_words lines w
    import_words = Joining.import_words front b e s part out z room none

    -- and so they are in every accepted book that goes on, if no later state is of that part and no later arc leaves one of its states
    pub import_within : (rest : List ℕ) (B : Book) → read_book (front ++ (bytes ++ rest)) ≡ accepted B
        → ((k : ℕ) → length b.states + state_count lines ≤ k → k < length B.states → mine B (latest b) part k ≡ false)
        → ((j : ℕ) → length b.arcs + arc_count lines ≤ j → j < length B.arcs → leaves (length b.states) (state_count lines) (arc_of B j) ≡ false)
        → (w : List ℕ) → accepts B (latest b) part w ≡ text_words lines w
    import_within = Joining.import_within front b e s part out z room none
