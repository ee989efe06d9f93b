-- The proved table of document 01, "Tapes worked by hand": cases 1 to 11 as one statement over all rows, of the definitions themselves; the
-- accounts of cases 1 and 8, and the stretches taken in case 8 (source document 001, example 3.8). All by computation from the books' bytes.
use Rattle.std.specs.Prelude.{ℕ, List, [], ◌∷◌, map, true, ◌≡◌, refl}
use Rattle.book.specs.Format.{record_size, symbol_fits, symbols_fit, rule_reply, state_reply, given, arc_reply, end_reply, kind_reply, record_reply}
use Rattle.book.specs.Reading.{with_record, read_from, read_book, book_of}
use Rattle.book.specs.Language.{leads, flagged, is_start, is_accept, accepts, rules_in}
use Rattle.book.specs.House.{house}
use Rattle.stretches.specs.Books.{book_p, book_q, book_s}
use Rattle.stretches.specs.Candidates.{candidate, longest, taken}
use Rattle.stretches.specs.Output.{rewriting, symbols_of, origins_of}
use Rattle.stretches.specs.Account.{account, line_words}

pub record Row : Type 0 where
  pub book : List ℕ
  pub tape : List ℕ
  pub output : List ℕ
  pub origins : List ℕ

abbrev pub row : List ℕ → List ℕ → List ℕ → List ℕ → Row
row b t o g = record { book = b; tape = t; output = o; origins = g }

-- the row with the output and the origins that the book's bytes give to the tape
abbrev pub rewritten : Row → Row
rewritten x = row x.book x.tape (symbols_of (rewriting (rules_in x.book) x.tape)) (origins_of (rewriting (rules_in x.book) x.tape))

-- aaaaaabaaab
unfoldable pub tape8 : List ℕ
tape8 = 0 ∷ 0 ∷ 0 ∷ 0 ∷ 0 ∷ 0 ∷ 1 ∷ 0 ∷ 0 ∷ 0 ∷ 1 ∷ []

unfoldable pub rows : List Row
rows =
    row house (1 ∷ 2 ∷ 4 ∷ 0 ∷ 0 ∷ []) (1 ∷ 10 ∷ 0 ∷ 0 ∷ []) (0 ∷ 1 ∷ 3 ∷ 4 ∷ []) ∷
    row house (0 ∷ 2 ∷ 3 ∷ 3 ∷ 4 ∷ 5 ∷ []) (0 ∷ 8 ∷ 5 ∷ []) (0 ∷ 1 ∷ 5 ∷ []) ∷
    row house (2 ∷ 4 ∷ 0 ∷ []) (2 ∷ 4 ∷ 0 ∷ []) (0 ∷ 1 ∷ 2 ∷ []) ∷
    row house (2 ∷ 4 ∷ 0 ∷ 0 ∷ []) (9 ∷ 0 ∷ 0 ∷ []) (0 ∷ 2 ∷ 3 ∷ []) ∷
    row house (1 ∷ 2 ∷ 4 ∷ 2 ∷ 4 ∷ 0 ∷ 0 ∷ []) (1 ∷ 10 ∷ 9 ∷ 0 ∷ 0 ∷ []) (0 ∷ 1 ∷ 3 ∷ 5 ∷ 6 ∷ []) ∷
    row house (2 ∷ 4 ∷ 2 ∷ 4 ∷ 5 ∷ []) (2 ∷ 4 ∷ 8 ∷ 5 ∷ []) (0 ∷ 1 ∷ 2 ∷ 4 ∷ []) ∷
    row house [] [] [] ∷
    row book_p tape8 (0 ∷ 2 ∷ 1 ∷ 0 ∷ 2 ∷ 1 ∷ []) (0 ∷ 1 ∷ 6 ∷ 7 ∷ 8 ∷ 10 ∷ []) ∷
    row book_q (1 ∷ 0 ∷ 0 ∷ 0 ∷ 0 ∷ 1 ∷ []) (1 ∷ 2 ∷ 0 ∷ 1 ∷ []) (0 ∷ 1 ∷ 4 ∷ 5 ∷ []) ∷
    row book_s (0 ∷ 1 ∷ 2 ∷ 2 ∷ 0 ∷ 0 ∷ 1 ∷ 2 ∷ []) (0 ∷ 2 ∷ 0 ∷ 2 ∷ []) (0 ∷ 3 ∷ 4 ∷ 7 ∷ []) ∷
    row book_s (0 ∷ 1 ∷ 2 ∷ 2 ∷ 0 ∷ 0 ∷ 1 ∷ 2 ∷ 2 ∷ []) (0 ∷ 2 ∷ 0 ∷ 2 ∷ 2 ∷ []) (0 ∷ 3 ∷ 4 ∷ 7 ∷ 8 ∷ []) ∷
    []

-- each tape is rewritten to its row
pub table : map rewritten rows ≡ rows
unfolding rows tape8 house book_p book_q book_s record_size symbol_fits symbols_fit rule_reply state_reply given arc_reply end_reply kind_reply record_reply
    with_record read_from read_book book_of leads flagged is_start is_accept accepts candidate longest rewriting
table = refl

-- case 1, the C lines that document 01 prints, with the sixth word: "C 0 1 3 0 1 0", "C 2 1 3 2 1 0"
pub account1 : map line_words (account (rules_in house) (1 ∷ 2 ∷ 4 ∷ 0 ∷ 0 ∷ [])) ≡ (0 ∷ 1 ∷ 3 ∷ 0 ∷ 1 ∷ 0 ∷ []) ∷ (2 ∷ 1 ∷ 3 ∷ 2 ∷ 1 ∷ 0 ∷ []) ∷ []
unfolding house record_size symbol_fits symbols_fit rule_reply state_reply given arc_reply end_reply kind_reply record_reply with_record read_from read_book
    book_of leads flagged is_start is_accept accepts candidate longest account
account1 = refl

-- "1 to 6 and 8 to 10 are taken"
pub taken8 : taken (rules_in book_p) tape8 ≡ record { start = 1; end = 6; taken = true } ∷ record { start = 8; end = 10; taken = true } ∷ []
unfolding tape8 book_p record_size symbol_fits symbols_fit rule_reply state_reply given arc_reply end_reply kind_reply record_reply with_record read_from
    read_book book_of leads flagged is_start is_accept accepts candidate longest taken
taken8 = refl

-- "Its account for case 8 has nine lines; 1 to 6 and 8 to 10 are taken, 1 to 3 and 1 to 4 are shorter, the other five have deciding start 1"; rule 0
-- decides each, also that of rule 1 from 5 to 7
pub account8 : map line_words (account (rules_in book_p) tape8) ≡
    (0 ∷ 1 ∷ 3 ∷ 1 ∷ 1 ∷ 0 ∷ []) ∷
    (0 ∷ 1 ∷ 4 ∷ 1 ∷ 1 ∷ 0 ∷ []) ∷
    (0 ∷ 1 ∷ 6 ∷ 0 ∷ 1 ∷ 0 ∷ []) ∷
    (0 ∷ 2 ∷ 4 ∷ 3 ∷ 1 ∷ 0 ∷ []) ∷
    (0 ∷ 2 ∷ 6 ∷ 3 ∷ 1 ∷ 0 ∷ []) ∷
    (0 ∷ 3 ∷ 6 ∷ 3 ∷ 1 ∷ 0 ∷ []) ∷
    (0 ∷ 4 ∷ 6 ∷ 3 ∷ 1 ∷ 0 ∷ []) ∷
    (1 ∷ 5 ∷ 7 ∷ 3 ∷ 1 ∷ 0 ∷ []) ∷
    (0 ∷ 8 ∷ 10 ∷ 0 ∷ 8 ∷ 0 ∷ []) ∷
    []
unfolding tape8 book_p record_size symbol_fits symbols_fit rule_reply state_reply given arc_reply end_reply kind_reply record_reply with_record read_from
    read_book book_of leads flagged is_start is_accept accepts candidate longest account
account8 = refl
