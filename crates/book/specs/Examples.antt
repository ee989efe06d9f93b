-- A refusal of each number, records with several faults, and the house book, as one statement over all rows.
use Rattle.std.specs.Prelude.{ℕ, ◌-◌, List, [], ◌∷◌, ◌++◌, map, ◌≡◌, refl, take, set}
use Rattle.book.specs.Format.{symbol_count, record_size, symbol_fits, symbols_fit, rule_reply, state_reply, given, arc_reply, end_reply, kind_reply, record_reply}
use Rattle.book.specs.Reading.{with_record, read_from, read_book, check_def}
use Rattle.book.specs.Before.{high_book, reply_below, read_below, read_all_below, check_below}
use Rattle.book.specs.House.{house}
use Rattle.book.specs.declared.Checked.{Checked}

pub record Row : Type 0 where
  pub book : List ℕ
  pub answer : Checked

abbrev refusal : List ℕ → ℕ → ℕ → Row
refusal s r p = record { book = s; answer = record { reply = r; place = p; rules = 0; states = 0; arcs = 0 } }

abbrev times : ℕ → List ℕ → List ℕ
times ℕ.zero l = []
times (ℕ.suc n) l = l ++ times n l

abbrev rule : List ℕ
rule = 1 ∷ 1 ∷ 10 ∷ 0 ∷ 0 ∷ 0 ∷ 0 ∷ 0 ∷ 0 ∷ 0 ∷ []

abbrev state : ℕ → ℕ → List ℕ
state part flags = 2 ∷ part ∷ flags ∷ []

abbrev arc : ℕ → ℕ → ℕ → ℕ → List ℕ
arc from low high to = 3 ∷ from ∷ low ∷ high ∷ to ∷ []

abbrev end : List ℕ
end = 4 ∷ []

-- the last symbol, 31
abbrev last : ℕ
last = symbol_count - 1

abbrev pub rows : List Row
rows =
    -- accepted: the house book; the smallest book; a focus state with flags 3, since document 02, No. 5, "7 is no longer given"
    record { book = house; answer = record { reply = 0; place = 0; rules = 3; states = 19; arcs = 12 } } ∷
    record { book = rule ++ end; answer = record { reply = 0; place = 0; rules = 1; states = 0; arcs = 0 } } ∷
    record { book = rule ++ (state 1 3 ++ end); answer = record { reply = 0; place = 0; rules = 1; states = 1; arcs = 0 } } ∷
    -- the last symbol in a word and on an arc
    record {
      book = set rule 2 last ++ (state 1 3 ++ (arc 0 last last 0 ++ end));
      answer = record { reply = 0; place = 0; rules = 1; states = 1; arcs = 1 };
    } ∷
    -- 1: no kind byte; inside a body; a cut body comes before 4
    refusal [] 1 0 ∷
    refusal (take 147 house) 1 147 ∷
    refusal (take 20 house) 1 19 ∷
    refusal (2 ∷ []) 1 0 ∷
    -- 2: an unknown kind, also before any rule
    refusal (rule ++ (5 ∷ [])) 2 10 ∷
    refusal (0 ∷ []) 2 0 ∷
    -- 3: the 17th rule, also with a bad length; the 65th state, also with a bad part
    refusal (times 17 rule) 3 160 ∷
    refusal (times 16 rule ++ set rule 1 9) 3 160 ∷
    refusal (rule ++ times 65 (state 0 3)) 3 202 ∷
    refusal (rule ++ (times 64 (state 0 3) ++ state 3 0)) 3 202 ∷
    -- 4: state, arc or end before any rule; it comes before 5 and 8
    refusal (state 3 4) 4 0 ∷
    refusal (arc 0 0 symbol_count 0) 4 0 ∷
    refusal (end ++ end) 4 0 ∷
    -- 5: a length above 8, a symbol above the last, an unused symbol that is not 0; part, flags; highest, lowest above highest; it comes before 6
    refusal (set rule 1 9) 5 0 ∷
    refusal (set rule 2 symbol_count) 5 0 ∷
    refusal (set rule 3 1) 5 0 ∷
    refusal (rule ++ state 3 0) 5 10 ∷
    refusal (rule ++ state 1 4) 5 10 ∷
    refusal (rule ++ arc 9 0 symbol_count 9) 5 10 ∷
    refusal (rule ++ arc 9 2 1 9) 5 10 ∷
    -- 6: a state not yet given, one of an earlier rule, one above all numbers, two parts
    refusal (rule ++ arc 0 0 last 0) 6 10 ∷
    refusal (rule ++ (state 0 1 ++ (rule ++ arc 0 0 last 0))) 6 23 ∷
    refusal (rule ++ (state 0 1 ++ arc 0 0 last 200)) 6 13 ∷
    refusal (rule ++ (state 0 1 ++ (state 2 1 ++ arc 0 0 last 1))) 6 16 ∷
    -- 8: a byte after the end record
    refusal (house ++ (0 ∷ [])) 8 148 ∷
    []

abbrev book_of_row : Row → List ℕ
book_of_row x = x.book

abbrev answer_of_row : Row → Checked
answer_of_row x = x.answer

pub answers : map (λ (x : Row). check_def (book_of_row x)) rows ≡ map answer_of_row rows
unfolding house record_size symbol_fits symbols_fit rule_reply state_reply given arc_reply end_reply kind_reply record_reply with_record read_from read_book check_def
answers = refl

-- with sixteen symbols: the house book is accepted; symbol 16 is 5 in a word and on an arc, also on one whose states are not
-- given, which with symbol 15 is 6; before any rule it is 4
abbrev pub older_rows : List Row
older_rows =
    record { book = house; answer = record { reply = 0; place = 0; rules = 3; states = 19; arcs = 12 } } ∷
    refusal (set rule 2 16 ++ end) 5 0 ∷
    refusal (rule ++ (state 1 3 ++ (arc 0 0 16 0 ++ end))) 5 13 ∷
    refusal (rule ++ arc 9 0 16 9) 5 10 ∷
    refusal (rule ++ arc 9 0 15 9) 6 10 ∷
    refusal (arc 9 0 16 9) 4 0 ∷
    []

pub older_answers : map (λ (x : Row). check_below 16 (book_of_row x)) older_rows ≡ map answer_of_row older_rows
unfolding house record_size symbol_fits symbols_fit rule_reply state_reply given arc_reply end_reply kind_reply record_reply with_record
    high_book reply_below read_below read_all_below check_below
older_answers = refl
