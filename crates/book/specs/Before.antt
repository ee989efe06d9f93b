-- What document 02, No. 6, leaves as it was is said of CHECK as it was before, when symbols ran from 0 to 15: here with the first n symbols, for any n;
-- with as many as there are now it is CHECK as it is. No contract uses these.
use Rattle.std.specs.Prelude.{ℕ, zero, suc, ◌+◌, List, Bool, true, false, cond, ◌&&◌, ◌||◌, leb, ltb, eqb, length}
use Rattle.book.specs.Format.{end_kind, end_size, byte, record_size, record_reply}
use Rattle.book.specs.Reading.{Arc, Book, empty, scan_of, with_record, Read, refused, ended, answer, book_in}
use Rattle.book.specs.Language.{any}
use Rattle.book.specs.declared.Checked.{Checked}
use Rattle.book.specs.declared.Scan.{Scan}

-- the word has a symbol that is none of the first n
abbrev pub high : ℕ → List ℕ → Bool
high n = any (leb n)

-- the arc is open to one
abbrev pub high_arc : ℕ → Arc → Bool
high_arc n x = leb n x.high

-- a word of the book has one, or an arc is open to one
unfoldable pub high_book : ℕ → Book → Bool
high_book n b = any (high n) b.words || any (high_arc n) b.arcs

-- "then 4, 3, 5, 6": the record's reply, where a symbol that is none of the first n is 5; what is tested before 5 stays as it is
unfoldable pub reply_below : ℕ → List ℕ → ℕ → Scan → ℕ
reply_below n s at g =
    cond (high_book n (with_record s at empty) && (eqb (record_reply s at g) 0 || eqb (record_reply s at g) 6)) 5 (record_reply s at g)

-- the records from the front, each by that test
unfoldable pub read_below : ℕ → ℕ → List ℕ → ℕ → Book → Read
read_below n zero s at b = refused 1 at
read_below n (suc k) s at b =
    elim (reply_below n s at (scan_of b)) [
      | zero ↦ elim (eqb (byte s at) end_kind) [
        | true ↦ ended (ltb (at + end_size) (length s)) at b
        | false ↦ read_below n k s (at + record_size (byte s at)) (with_record s at b)
      ]
      | suc r ↦ refused (suc r) at
    ]

unfoldable pub read_all_below : ℕ → List ℕ → Read
read_all_below n s = read_below n (suc (length s)) s 0 empty

unfoldable pub check_below : ℕ → List ℕ → Checked
check_below n s = answer (read_all_below n s)

unfoldable pub book_below : ℕ → List ℕ → Book
book_below n s = book_in (read_all_below n s)
