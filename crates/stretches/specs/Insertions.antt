-- Document 02, No. 5, marks put in without removing anything, worked by hand: tapes with their outputs, origins and accounts, as one statement over
-- all rows. All by computation from the books' bytes.
use Rattle.std.specs.Prelude.{ℕ, List, [], ◌∷◌, map, ◌≡◌, refl}
use Rattle.book.specs.Format.{record_size, symbol_fits, symbols_fit, rule_reply, state_reply, given, arc_reply, end_reply, kind_reply, record_reply}
use Rattle.book.specs.Reading.{with_record, read_from, read_book, book_of}
use Rattle.book.specs.Language.{leads, flagged, is_start, is_accept, accepts, rules_in}
use Rattle.stretches.specs.Candidates.{candidate, longest}
use Rattle.stretches.specs.Output.{rewriting}
use Rattle.stretches.specs.Account.{account, line_words}
use Rattle.stretches.specs.Table.{Row, row, rewritten}

-- "Federations want a lap mark inserted between a turn and the next event": rule 0 puts in 11 after 2, any number of 3, 4 and before 5; rule 1 makes
-- these a turn, 8, as the house book does
unfoldable pub laps : List ℕ
laps =
    1 ∷ 1 ∷ 11 ∷ 0 ∷ 0 ∷ 0 ∷ 0 ∷ 0 ∷ 0 ∷ 0 ∷
    2 ∷ 0 ∷ 1 ∷
    2 ∷ 0 ∷ 0 ∷
    2 ∷ 0 ∷ 2 ∷
    2 ∷ 1 ∷ 3 ∷
    2 ∷ 2 ∷ 1 ∷
    2 ∷ 2 ∷ 2 ∷
    3 ∷ 0 ∷ 2 ∷ 2 ∷ 1 ∷
    3 ∷ 1 ∷ 3 ∷ 3 ∷ 1 ∷
    3 ∷ 1 ∷ 4 ∷ 4 ∷ 2 ∷
    3 ∷ 4 ∷ 5 ∷ 5 ∷ 5 ∷
    1 ∷ 1 ∷ 8 ∷ 0 ∷ 0 ∷ 0 ∷ 0 ∷ 0 ∷ 0 ∷ 0 ∷
    2 ∷ 0 ∷ 3 ∷
    2 ∷ 1 ∷ 1 ∷
    2 ∷ 1 ∷ 0 ∷
    2 ∷ 1 ∷ 2 ∷
    2 ∷ 2 ∷ 1 ∷
    2 ∷ 2 ∷ 2 ∷
    3 ∷ 7 ∷ 2 ∷ 2 ∷ 8 ∷
    3 ∷ 8 ∷ 3 ∷ 3 ∷ 8 ∷
    3 ∷ 8 ∷ 4 ∷ 4 ∷ 9 ∷
    3 ∷ 10 ∷ 5 ∷ 5 ∷ 11 ∷
    4 ∷
    []

-- rule 0 puts in 11 12 after each symbol 5 to 8; rule 1 makes a 5, and 6 6, a 7; rule 2 puts in 13 after each 8; rule 3 puts in 14 before each 9
unfoldable pub book_i : List ℕ
book_i =
    1 ∷ 2 ∷ 11 ∷ 12 ∷ 0 ∷ 0 ∷ 0 ∷ 0 ∷ 0 ∷ 0 ∷
    2 ∷ 0 ∷ 1 ∷
    2 ∷ 0 ∷ 2 ∷
    2 ∷ 1 ∷ 3 ∷
    2 ∷ 2 ∷ 3 ∷
    3 ∷ 0 ∷ 5 ∷ 8 ∷ 1 ∷
    1 ∷ 1 ∷ 7 ∷ 0 ∷ 0 ∷ 0 ∷ 0 ∷ 0 ∷ 0 ∷ 0 ∷
    2 ∷ 0 ∷ 3 ∷
    2 ∷ 1 ∷ 1 ∷
    2 ∷ 1 ∷ 0 ∷
    2 ∷ 1 ∷ 2 ∷
    2 ∷ 2 ∷ 3 ∷
    3 ∷ 5 ∷ 5 ∷ 5 ∷ 7 ∷
    3 ∷ 5 ∷ 6 ∷ 6 ∷ 6 ∷
    3 ∷ 6 ∷ 6 ∷ 6 ∷ 7 ∷
    1 ∷ 1 ∷ 13 ∷ 0 ∷ 0 ∷ 0 ∷ 0 ∷ 0 ∷ 0 ∷ 0 ∷
    2 ∷ 0 ∷ 1 ∷
    2 ∷ 0 ∷ 2 ∷
    2 ∷ 1 ∷ 3 ∷
    2 ∷ 2 ∷ 3 ∷
    3 ∷ 9 ∷ 8 ∷ 8 ∷ 10 ∷
    1 ∷ 1 ∷ 14 ∷ 0 ∷ 0 ∷ 0 ∷ 0 ∷ 0 ∷ 0 ∷ 0 ∷
    2 ∷ 0 ∷ 3 ∷
    2 ∷ 1 ∷ 3 ∷
    2 ∷ 2 ∷ 1 ∷
    2 ∷ 2 ∷ 2 ∷
    3 ∷ 15 ∷ 9 ∷ 9 ∷ 16 ∷
    4 ∷
    []

-- puts in eight symbols everywhere
unfoldable pub fullest : List ℕ
fullest =
    1 ∷ 8 ∷ 1 ∷ 2 ∷ 3 ∷ 4 ∷ 5 ∷ 6 ∷ 7 ∷ 8 ∷
    2 ∷ 0 ∷ 3 ∷
    2 ∷ 1 ∷ 3 ∷
    2 ∷ 2 ∷ 3 ∷
    4 ∷
    []

-- a row with the words of its account's lines
pub record Accounted : Type 0 where
  pub row : Row
  pub lines : List (List ℕ)

abbrev pub with_lines : Row → List (List ℕ) → Accounted
with_lines x ls = record { row = x; lines = ls }

-- what the book's bytes give to the tape
abbrev pub worked : Accounted → Accounted
worked x = with_lines (rewritten x.row) (map line_words (account (rules_in x.row.book) x.row.tape))

unfoldable pub insertions : List Accounted
insertions =
    -- a lap mark between a turn and the next event, with that event's position as its origin
    with_lines (row laps (0 ∷ 2 ∷ 3 ∷ 4 ∷ 5 ∷ []) (0 ∷ 8 ∷ 11 ∷ 5 ∷ []) (0 ∷ 1 ∷ 4 ∷ 4 ∷ []))
    ((1 ∷ 1 ∷ 4 ∷ 0 ∷ 1 ∷ 1 ∷ []) ∷ (0 ∷ 4 ∷ 4 ∷ 0 ∷ 4 ∷ 0 ∷ []) ∷ []) ∷
    -- at 0
    with_lines (row book_i (9 ∷ []) (14 ∷ 9 ∷ []) (0 ∷ 0 ∷ []))
    ((3 ∷ 0 ∷ 0 ∷ 0 ∷ 0 ∷ 3 ∷ []) ∷ []) ∷
    -- between: "the word is written and the symbol at that position is kept"
    with_lines (row book_i (6 ∷ 1 ∷ []) (6 ∷ 11 ∷ 12 ∷ 1 ∷ []) (0 ∷ 1 ∷ 1 ∷ 1 ∷ []))
    ((0 ∷ 1 ∷ 1 ∷ 0 ∷ 1 ∷ 0 ∷ []) ∷ []) ∷
    -- at n: "Every origin of an inserted word is its position, n at the tape's end"; of two rules with the empty stretch the lowest wins
    with_lines (row book_i (8 ∷ []) (8 ∷ 11 ∷ 12 ∷ []) (0 ∷ 1 ∷ 1 ∷ []))
    ((0 ∷ 1 ∷ 1 ∷ 0 ∷ 1 ∷ 0 ∷ []) ∷ (2 ∷ 1 ∷ 1 ∷ 2 ∷ 1 ∷ 0 ∷ []) ∷ []) ∷
    -- "An empty candidate at the end of a taken stretch is after it"
    with_lines (row book_i (5 ∷ 1 ∷ []) (7 ∷ 11 ∷ 12 ∷ 1 ∷ []) (0 ∷ 1 ∷ 1 ∷ 1 ∷ []))
    ((1 ∷ 0 ∷ 1 ∷ 0 ∷ 0 ∷ 1 ∷ []) ∷ (0 ∷ 1 ∷ 1 ∷ 0 ∷ 1 ∷ 0 ∷ []) ∷ []) ∷
    -- "verdict 3 still needs a start strictly inside"
    with_lines (row book_i (6 ∷ 6 ∷ []) (7 ∷ 11 ∷ 12 ∷ []) (0 ∷ 2 ∷ 2 ∷ []))
    ((1 ∷ 0 ∷ 2 ∷ 0 ∷ 0 ∷ 1 ∷ []) ∷ (0 ∷ 1 ∷ 1 ∷ 3 ∷ 0 ∷ 1 ∷ []) ∷ (0 ∷ 2 ∷ 2 ∷ 0 ∷ 2 ∷ 0 ∷ []) ∷ []) ∷
    -- "At a taken start the longest still wins": the empty candidates come first in the account, and are shorter
    with_lines (row book_i (8 ∷ 5 ∷ []) (8 ∷ 7 ∷ 11 ∷ 12 ∷ []) (0 ∷ 1 ∷ 2 ∷ 2 ∷ []))
    ((0 ∷ 1 ∷ 1 ∷ 1 ∷ 1 ∷ 1 ∷ []) ∷ (2 ∷ 1 ∷ 1 ∷ 1 ∷ 1 ∷ 1 ∷ []) ∷ (1 ∷ 1 ∷ 2 ∷ 0 ∷ 1 ∷ 1 ∷ []) ∷ (0 ∷ 2 ∷ 2 ∷ 0 ∷ 2 ∷ 0 ∷ []) ∷ []) ∷
    -- "no start is taken twice": three rules could put their word in at 1
    with_lines (row book_i (8 ∷ 9 ∷ []) (8 ∷ 11 ∷ 12 ∷ 9 ∷ []) (0 ∷ 1 ∷ 1 ∷ 1 ∷ []))
    ((0 ∷ 1 ∷ 1 ∷ 0 ∷ 1 ∷ 0 ∷ []) ∷ (2 ∷ 1 ∷ 1 ∷ 2 ∷ 1 ∷ 0 ∷ []) ∷ (3 ∷ 1 ∷ 1 ∷ 2 ∷ 1 ∷ 0 ∷ []) ∷ []) ∷
    -- the empty tape, without a place for a word and with one; and the longest output of one symbol, 9 + 8
    with_lines (row book_i [] [] []) [] ∷
    with_lines (row fullest [] (1 ∷ 2 ∷ 3 ∷ 4 ∷ 5 ∷ 6 ∷ 7 ∷ 8 ∷ []) (0 ∷ 0 ∷ 0 ∷ 0 ∷ 0 ∷ 0 ∷ 0 ∷ 0 ∷ []))
    ((0 ∷ 0 ∷ 0 ∷ 0 ∷ 0 ∷ 0 ∷ []) ∷ []) ∷
    with_lines (row fullest (9 ∷ [])
    (1 ∷ 2 ∷ 3 ∷ 4 ∷ 5 ∷ 6 ∷ 7 ∷ 8 ∷ 9 ∷ 1 ∷ 2 ∷ 3 ∷ 4 ∷ 5 ∷ 6 ∷ 7 ∷ 8 ∷ [])
    (0 ∷ 0 ∷ 0 ∷ 0 ∷ 0 ∷ 0 ∷ 0 ∷ 0 ∷ 0 ∷ 1 ∷ 1 ∷ 1 ∷ 1 ∷ 1 ∷ 1 ∷ 1 ∷ 1 ∷ []))
    ((0 ∷ 0 ∷ 0 ∷ 0 ∷ 0 ∷ 0 ∷ []) ∷ (0 ∷ 1 ∷ 1 ∷ 0 ∷ 1 ∷ 0 ∷ []) ∷ []) ∷
    []

pub inserted : map worked insertions ≡ insertions
unfolding insertions laps book_i fullest record_size symbol_fits symbols_fit rule_reply state_reply given arc_reply end_reply kind_reply record_reply with_record read_from
    read_book book_of leads flagged is_start is_accept accepts candidate longest rewriting account
inserted = refl
