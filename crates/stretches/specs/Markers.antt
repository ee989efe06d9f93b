-- Document 02, No. 8, worked by hand: two tapes alone, and joined by a symbol that is on no arc of the book; with their accounts. All by computation from the
-- books' bytes.
use Rattle.std.specs.Prelude.{List, [], ◌∷◌, map, true, false, ◌≡◌, refl}
use Rattle.book.specs.Format.{record_size, symbol_fits, symbols_fit, rule_reply, state_reply, given, arc_reply, end_reply, kind_reply, record_reply}
use Rattle.book.specs.Reading.{with_record, read_from, read_book, book_of}
use Rattle.book.specs.Language.{up_from, leads, flagged, is_start, is_accept, accepts}
use Rattle.book.specs.Unused.{on_no_arc}
use Rattle.book.specs.House.{house}
use Rattle.stretches.specs.Candidates.{candidate, longest}
use Rattle.stretches.specs.Output.{rewriting}
use Rattle.stretches.specs.Account.{account}
use Rattle.stretches.specs.Table.{row}
use Rattle.stretches.specs.Insertions.{Accounted, with_lines, worked, book_i}
use Rattle.stretches.specs.Races.{joined}

-- the house book has arcs for 0 to 5; book_i for 5 to 9, and for 5 to 8 on one arc
pub free_symbols : (map (on_no_arc (book_of house)) (up_from 0 8) ≡ false ∷ false ∷ false ∷ false ∷ false ∷ false ∷ true ∷ true ∷ [])
    × (map (on_no_arc (book_of book_i)) (up_from 3 8) ≡ true ∷ true ∷ false ∷ false ∷ false ∷ false ∷ false ∷ true ∷ [])
unfolding house book_i record_size symbol_fits symbols_fit rule_reply state_reply given arc_reply end_reply kind_reply record_reply with_record read_from read_book book_of
    on_no_arc
free_symbols = (refl, refl)

-- of the races 12400 and 2400 the first is noise, the second a finish
unfoldable pub races : List Accounted
races =
    with_lines (row house (1 ∷ 2 ∷ 4 ∷ 0 ∷ 0 ∷ []) (1 ∷ 10 ∷ 0 ∷ 0 ∷ []) (0 ∷ 1 ∷ 3 ∷ 4 ∷ []))
    ((0 ∷ 1 ∷ 3 ∷ 0 ∷ 1 ∷ 0 ∷ []) ∷ (2 ∷ 1 ∷ 3 ∷ 2 ∷ 1 ∷ 0 ∷ []) ∷ []) ∷
    with_lines (row house (2 ∷ 4 ∷ 0 ∷ 0 ∷ []) (9 ∷ 0 ∷ 0 ∷ []) (0 ∷ 2 ∷ 3 ∷ []))
    ((2 ∷ 0 ∷ 2 ∷ 0 ∷ 0 ∷ 2 ∷ []) ∷ []) ∷
    with_lines (row house (joined (1 ∷ 2 ∷ 4 ∷ 0 ∷ 0 ∷ []) 6 (2 ∷ 4 ∷ 0 ∷ 0 ∷ [])) (1 ∷ 10 ∷ 0 ∷ 0 ∷ 6 ∷ 9 ∷ 0 ∷ 0 ∷ []) (0 ∷ 1 ∷ 3 ∷ 4 ∷ 5 ∷ 6 ∷ 8 ∷ 9 ∷ []))
    ((0 ∷ 1 ∷ 3 ∷ 0 ∷ 1 ∷ 0 ∷ []) ∷ (2 ∷ 1 ∷ 3 ∷ 2 ∷ 1 ∷ 0 ∷ []) ∷ (2 ∷ 6 ∷ 8 ∷ 0 ∷ 6 ∷ 2 ∷ []) ∷ []) ∷
    -- words put in at the end of the first tape, before the marker and with its position, and at the front of the second
    with_lines (row book_i (8 ∷ []) (8 ∷ 11 ∷ 12 ∷ []) (0 ∷ 1 ∷ 1 ∷ []))
    ((0 ∷ 1 ∷ 1 ∷ 0 ∷ 1 ∷ 0 ∷ []) ∷ (2 ∷ 1 ∷ 1 ∷ 2 ∷ 1 ∷ 0 ∷ []) ∷ []) ∷
    with_lines (row book_i (9 ∷ []) (14 ∷ 9 ∷ []) (0 ∷ 0 ∷ []))
    ((3 ∷ 0 ∷ 0 ∷ 0 ∷ 0 ∷ 3 ∷ []) ∷ []) ∷
    with_lines (row book_i (joined (8 ∷ []) 4 (9 ∷ [])) (8 ∷ 11 ∷ 12 ∷ 4 ∷ 14 ∷ 9 ∷ []) (0 ∷ 1 ∷ 1 ∷ 1 ∷ 2 ∷ 2 ∷ []))
    ((0 ∷ 1 ∷ 1 ∷ 0 ∷ 1 ∷ 0 ∷ []) ∷ (2 ∷ 1 ∷ 1 ∷ 2 ∷ 1 ∷ 0 ∷ []) ∷ (3 ∷ 2 ∷ 2 ∷ 0 ∷ 2 ∷ 3 ∷ []) ∷ []) ∷
    -- a symbol that is on an arc is no marker: the touch 240 is none alone, and a quiet between it and the next race makes it a finish that nobody swam
    with_lines (row house (2 ∷ 4 ∷ 0 ∷ []) (2 ∷ 4 ∷ 0 ∷ []) (0 ∷ 1 ∷ 2 ∷ [])) [] ∷
    with_lines (row house (joined (2 ∷ 4 ∷ 0 ∷ []) 6 (1 ∷ [])) (2 ∷ 4 ∷ 0 ∷ 6 ∷ 1 ∷ []) (0 ∷ 1 ∷ 2 ∷ 3 ∷ 4 ∷ [])) [] ∷
    with_lines (row house (joined (2 ∷ 4 ∷ 0 ∷ []) 0 (1 ∷ [])) (9 ∷ 0 ∷ 0 ∷ 1 ∷ []) (0 ∷ 2 ∷ 3 ∷ 4 ∷ [])) ((2 ∷ 0 ∷ 2 ∷ 0 ∷ 0 ∷ 2 ∷ []) ∷ []) ∷
    []

pub races_worked : map worked races ≡ races
unfolding races house book_i record_size symbol_fits symbols_fit rule_reply state_reply given arc_reply end_reply kind_reply record_reply with_record read_from read_book
    book_of leads flagged is_start is_accept accepts candidate longest rewriting account
races_worked = refl
