-- Document 02, No. 4, worked by hand: "Some pools replace a contact by contact and release, and both print with the time of the press." A row beside
-- those of the table, with a word of two symbols and one of three, each on a stretch longer than one.
use Rattle.std.specs.Prelude.{ℕ, List, [], ◌∷◌, ◌≡◌, refl}
use Rattle.book.specs.Format.{record_size, symbol_fits, symbols_fit, rule_reply, state_reply, given, arc_reply, end_reply, kind_reply, record_reply}
use Rattle.book.specs.Reading.{with_record, read_from, read_book, book_of}
use Rattle.book.specs.Language.{leads, flagged, is_start, is_accept, accepts}
use Rattle.stretches.specs.Candidates.{candidate, longest}
use Rattle.stretches.specs.Output.{rewriting}
use Rattle.stretches.specs.Table.{Row, row, rewritten}

-- rule 0 makes each 2, any number of 3, 4 a 2 4; rule 1 makes each 5 5 a 6 7 6; no condition on either side
unfoldable pub contacts : List ℕ
contacts =
    1 ∷ 2 ∷ 2 ∷ 4 ∷ 0 ∷ 0 ∷ 0 ∷ 0 ∷ 0 ∷ 0 ∷
    2 ∷ 0 ∷ 3 ∷
    2 ∷ 1 ∷ 1 ∷
    2 ∷ 1 ∷ 0 ∷
    2 ∷ 1 ∷ 2 ∷
    2 ∷ 2 ∷ 3 ∷
    3 ∷ 1 ∷ 2 ∷ 2 ∷ 2 ∷
    3 ∷ 2 ∷ 3 ∷ 3 ∷ 2 ∷
    3 ∷ 2 ∷ 4 ∷ 4 ∷ 3 ∷
    1 ∷ 3 ∷ 6 ∷ 7 ∷ 6 ∷ 0 ∷ 0 ∷ 0 ∷ 0 ∷ 0 ∷
    2 ∷ 0 ∷ 3 ∷
    2 ∷ 1 ∷ 1 ∷
    2 ∷ 1 ∷ 0 ∷
    2 ∷ 1 ∷ 2 ∷
    2 ∷ 2 ∷ 3 ∷
    3 ∷ 6 ∷ 5 ∷ 5 ∷ 7 ∷
    3 ∷ 7 ∷ 5 ∷ 5 ∷ 8 ∷
    4 ∷
    []

-- 1 2334 0 55 24 5: the releases have the times 4 and 9, the presses 1 and 8; of 6 7 6 the last has 7, the others 6
unfoldable pub timed : Row
timed =
    row contacts (1 ∷ 2 ∷ 3 ∷ 3 ∷ 4 ∷ 0 ∷ 5 ∷ 5 ∷ 2 ∷ 4 ∷ 5 ∷ [])
    (1 ∷ 2 ∷ 4 ∷ 0 ∷ 6 ∷ 7 ∷ 6 ∷ 2 ∷ 4 ∷ 5 ∷ [])
    (0 ∷ 1 ∷ 4 ∷ 5 ∷ 6 ∷ 6 ∷ 7 ∷ 8 ∷ 9 ∷ 10 ∷ [])

pub both_times : rewritten timed ≡ timed
unfolding timed contacts record_size symbol_fits symbols_fit rule_reply state_reply given arc_reply end_reply kind_reply record_reply with_record read_from read_book
    book_of leads flagged is_start is_accept accepts candidate longest rewriting
both_times = refl
