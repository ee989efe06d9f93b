-- The books P, Q and S of document 01, "Tapes worked by hand", in the book format, a record a line; CHECK's definition accepts each.
use Rattle.std.specs.Prelude.{ℕ, List, [], ◌∷◌, map, ◌≡◌, refl}
use Rattle.book.specs.Format.{record_size, symbol_fits, symbols_fit, rule_reply, state_reply, given, arc_reply, end_reply, kind_reply, record_reply}
use Rattle.book.specs.Reading.{with_record, read_from, read_book, check_def}
use Rattle.book.specs.declared.Checked.{Checked}

-- "P: left a, right aa or b; rule 0 two or more a's to A, rule 1 ab to nothing"; a is 0, b is 1, A is 2
unfoldable pub book_p : List ℕ
book_p =
    1 ∷ 1 ∷ 2 ∷ 0 ∷ 0 ∷ 0 ∷ 0 ∷ 0 ∷ 0 ∷ 0 ∷
    2 ∷ 0 ∷ 1 ∷
    2 ∷ 0 ∷ 2 ∷
    2 ∷ 1 ∷ 1 ∷
    2 ∷ 1 ∷ 0 ∷
    2 ∷ 1 ∷ 2 ∷
    2 ∷ 2 ∷ 1 ∷
    2 ∷ 2 ∷ 0 ∷
    2 ∷ 2 ∷ 2 ∷
    3 ∷ 0 ∷ 0 ∷ 0 ∷ 1 ∷
    3 ∷ 2 ∷ 0 ∷ 0 ∷ 3 ∷
    3 ∷ 3 ∷ 0 ∷ 0 ∷ 4 ∷
    3 ∷ 4 ∷ 0 ∷ 0 ∷ 4 ∷
    3 ∷ 5 ∷ 0 ∷ 0 ∷ 6 ∷
    3 ∷ 6 ∷ 0 ∷ 0 ∷ 7 ∷
    3 ∷ 5 ∷ 1 ∷ 1 ∷ 7 ∷
    1 ∷ 0 ∷ 0 ∷ 0 ∷ 0 ∷ 0 ∷ 0 ∷ 0 ∷ 0 ∷ 0 ∷
    2 ∷ 0 ∷ 1 ∷
    2 ∷ 0 ∷ 2 ∷
    2 ∷ 1 ∷ 1 ∷
    2 ∷ 1 ∷ 0 ∷
    2 ∷ 1 ∷ 2 ∷
    2 ∷ 2 ∷ 1 ∷
    2 ∷ 2 ∷ 0 ∷
    2 ∷ 2 ∷ 2 ∷
    3 ∷ 8 ∷ 0 ∷ 0 ∷ 9 ∷
    3 ∷ 10 ∷ 0 ∷ 0 ∷ 11 ∷
    3 ∷ 11 ∷ 1 ∷ 1 ∷ 12 ∷
    3 ∷ 13 ∷ 0 ∷ 0 ∷ 14 ∷
    3 ∷ 14 ∷ 0 ∷ 0 ∷ 15 ∷
    3 ∷ 13 ∷ 1 ∷ 1 ∷ 15 ∷
    4 ∷
    []

-- "Q: one or more a's to A, left b, right a"; a is 0, b is 1, A is 2
unfoldable pub book_q : List ℕ
book_q =
    1 ∷ 1 ∷ 2 ∷ 0 ∷ 0 ∷ 0 ∷ 0 ∷ 0 ∷ 0 ∷ 0 ∷
    2 ∷ 0 ∷ 1 ∷
    2 ∷ 0 ∷ 2 ∷
    2 ∷ 1 ∷ 1 ∷
    2 ∷ 1 ∷ 2 ∷
    2 ∷ 2 ∷ 1 ∷
    2 ∷ 2 ∷ 2 ∷
    3 ∷ 0 ∷ 1 ∷ 1 ∷ 1 ∷
    3 ∷ 2 ∷ 0 ∷ 0 ∷ 3 ∷
    3 ∷ 3 ∷ 0 ∷ 0 ∷ 3 ∷
    3 ∷ 4 ∷ 0 ∷ 0 ∷ 5 ∷
    4 ∷
    []

-- "S: xy or yz to nothing, left x, right z"; x is 0, y is 1, z is 2
unfoldable pub book_s : List ℕ
book_s =
    1 ∷ 0 ∷ 0 ∷ 0 ∷ 0 ∷ 0 ∷ 0 ∷ 0 ∷ 0 ∷ 0 ∷
    2 ∷ 0 ∷ 1 ∷
    2 ∷ 0 ∷ 2 ∷
    2 ∷ 1 ∷ 1 ∷
    2 ∷ 1 ∷ 0 ∷
    2 ∷ 1 ∷ 0 ∷
    2 ∷ 1 ∷ 2 ∷
    2 ∷ 2 ∷ 1 ∷
    2 ∷ 2 ∷ 2 ∷
    3 ∷ 0 ∷ 0 ∷ 0 ∷ 1 ∷
    3 ∷ 2 ∷ 0 ∷ 0 ∷ 3 ∷
    3 ∷ 3 ∷ 1 ∷ 1 ∷ 5 ∷
    3 ∷ 2 ∷ 1 ∷ 1 ∷ 4 ∷
    3 ∷ 4 ∷ 2 ∷ 2 ∷ 5 ∷
    3 ∷ 6 ∷ 2 ∷ 2 ∷ 7 ∷
    4 ∷
    []

abbrev accepts : ℕ → ℕ → ℕ → Checked
accepts rules states arcs = record { reply = 0; place = 0; rules = rules; states = states; arcs = arcs }

pub books_accepted : map check_def (book_p ∷ book_q ∷ book_s ∷ []) ≡ accepts 2 16 13 ∷ accepts 1 6 4 ∷ accepts 1 8 6 ∷ []
unfolding book_p book_q book_s record_size symbol_fits symbols_fit rule_reply state_reply given arc_reply end_reply kind_reply record_reply with_record
    read_from read_book check_def
books_accepted = refl
