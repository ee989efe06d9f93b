-- Worked rows: texts and what IMPORT answers, as one statement; and the bytes of one part.
use Rattle.std.specs.Prelude.{ℕ, List, [], ◌∷◌, map, ◌≡◌, refl, ◌++◌, true, false, replicate}
use Rattle.book.specs.Format.{record_size, symbol_fits, symbols_fit, rule_reply, state_reply, given, arc_reply, end_reply, kind_reply, record_reply}
use Rattle.book.specs.Reading.{with_record, read_book, check_def, book_of}
use Rattle.book.specs.Reading as book
use Rattle.book.specs.Language.{leads, flagged, is_start, is_accept, accepts}
use Rattle.book.specs.declared.Written.{Written}
use Rattle.att.specs.Fields.{before, past, count, field_count, digits, is_number, value_from, value}
use Rattle.att.specs.Reading.{final_line, arc_line, line_in, line_at}
use Rattle.att.specs.Text.{read_from, read_text, idx, add, names_from, names, arc_count, is_final, flags, state_records, arc_records, written}
use Rattle.att.specs.Text.{answer_by, answer_of}
use Rattle.att.specs.Text.{import_leaves, import_def}
use Rattle.att.specs.Placed.{import_bytes}

abbrev row : ℕ → ℕ → ℕ → Written
row r p n = record { reply = r; place = p; length = n }

-- a call: the text, part, first number and room; and its answer
pub record Call : Type 0 where
  pub text : List ℕ
  pub part : ℕ
  pub first : ℕ
  pub room : ℕ
  pub answer : Written

abbrev call : List ℕ → ℕ → ℕ → ℕ → Written → Call
call text part first room answer = record { text = text; part = part; first = first; room = room; answer = answer }

abbrev pub calls : List Call
calls =
    -- the empty text: one state
    call ([]) 1 4 100 (row 0 0 3) ∷
    -- an arc and its final state
    call (48 ∷ 9 ∷ 49 ∷ 9 ∷ 51 ∷ 10 ∷ 49 ∷ 10 ∷ []) 1 4 100 (row 0 0 11) ∷
    -- a final state alone
    call (55 ∷ 10 ∷ []) 1 4 100 (row 0 0 3) ∷
    -- one state, named final twice
    call (55 ∷ 9 ∷ 55 ∷ 9 ∷ 49 ∷ 10 ∷ 55 ∷ 10 ∷ 55 ∷ 10 ∷ []) 1 4 100 (row 0 0 8) ∷
    -- the highest label, and no final state
    call (48 ∷ 9 ∷ 49 ∷ 9 ∷ 51 ∷ 50 ∷ 10 ∷ []) 1 4 100 (row 0 0 11) ∷
    -- the highest state
    call (54 ∷ 53 ∷ 53 ∷ 51 ∷ 53 ∷ 10 ∷ []) 1 4 100 (row 0 0 3) ∷
    -- zeros may lead
    call (48 ∷ 48 ∷ 48 ∷ 54 ∷ 53 ∷ 53 ∷ 51 ∷ 53 ∷ 10 ∷ []) 1 4 100 (row 0 0 3) ∷
    -- states 62 and 63, and just their room
    call (48 ∷ 10 ∷ 49 ∷ 10 ∷ []) 1 62 6 (row 0 0 6) ∷
    -- 5 before everything
    call (120 ∷ []) 3 0 0 (row 5 0 0) ∷
    -- two fields
    call (48 ∷ 9 ∷ 49 ∷ 10 ∷ []) 1 4 100 (row 20 0 0) ∷
    -- four fields, in the second line
    call (48 ∷ 10 ∷ 48 ∷ 9 ∷ 49 ∷ 9 ∷ 50 ∷ 9 ∷ 51 ∷ 10 ∷ []) 1 4 100 (row 20 2 0) ∷
    -- two fields without their newline
    call (48 ∷ 9 ∷ 49 ∷ []) 1 4 100 (row 20 0 0) ∷
    -- two fields, whatever stands in them
    call (120 ∷ 9 ∷ 10 ∷ []) 1 4 100 (row 20 0 0) ∷
    -- a missing newline
    call (48 ∷ 9 ∷ 49 ∷ 9 ∷ 51 ∷ []) 1 4 100 (row 18 0 0) ∷
    -- an empty line
    call (48 ∷ 10 ∷ 10 ∷ []) 1 4 100 (row 18 2 0) ∷
    -- blanks
    call (48 ∷ 32 ∷ 49 ∷ 32 ∷ 51 ∷ 10 ∷ []) 1 4 100 (row 18 0 0) ∷
    -- an empty field
    call (48 ∷ 9 ∷ 9 ∷ 51 ∷ 10 ∷ []) 1 4 100 (row 18 0 0) ∷
    -- a carriage return
    call (49 ∷ 13 ∷ 10 ∷ []) 1 4 100 (row 18 0 0) ∷
    -- a sign
    call (45 ∷ 49 ∷ 10 ∷ []) 1 4 100 (row 18 0 0) ∷
    -- a label that is no number
    call (48 ∷ 9 ∷ 49 ∷ 9 ∷ 120 ∷ 10 ∷ []) 1 4 100 (row 18 0 0) ∷
    -- five fields
    call (48 ∷ 9 ∷ 49 ∷ 9 ∷ 50 ∷ 9 ∷ 51 ∷ 9 ∷ 52 ∷ 10 ∷ []) 1 4 100 (row 18 0 0) ∷
    -- a state above 65,535
    call (54 ∷ 53 ∷ 53 ∷ 51 ∷ 54 ∷ 10 ∷ []) 1 4 100 (row 18 0 0) ∷
    -- a state above 65,535 before a label 0
    call (48 ∷ 9 ∷ 57 ∷ 57 ∷ 57 ∷ 57 ∷ 57 ∷ 9 ∷ 48 ∷ 10 ∷ []) 1 4 100 (row 18 0 0) ∷
    -- label 0
    call (48 ∷ 9 ∷ 49 ∷ 9 ∷ 48 ∷ 10 ∷ []) 1 4 100 (row 19 0 0) ∷
    -- label 33
    call (48 ∷ 9 ∷ 49 ∷ 9 ∷ 51 ∷ 51 ∷ 10 ∷ []) 1 4 100 (row 19 0 0) ∷
    -- a label that would wrap to 1
    call (48 ∷ 9 ∷ 49 ∷ 9 ∷ 52 ∷ 50 ∷ 57 ∷ 52 ∷ 57 ∷ 54 ∷ 55 ∷ 50 ∷ 57 ∷ 55 ∷ 10 ∷ []) 1 4 100 (row 19 0 0) ∷
    -- the first faulty line decides
    call (48 ∷ 9 ∷ 49 ∷ 9 ∷ 48 ∷ 10 ∷ 48 ∷ 9 ∷ 49 ∷ 10 ∷ []) 1 4 100 (row 19 0 0) ∷
    -- no number left for the one state
    call ([]) 1 64 100 (row 21 0 0) ∷
    -- 21 before 15
    call (48 ∷ 10 ∷ 49 ∷ 10 ∷ []) 1 63 0 (row 21 0 0) ∷
    -- a byte short
    call (48 ∷ 9 ∷ 49 ∷ 9 ∷ 51 ∷ 10 ∷ 49 ∷ 10 ∷ []) 1 4 10 (row 15 11 0) ∷
    []

pub answers : map (λ (c : Call). answer_of c.text c.part c.first c.room) calls ≡ map (λ (c : Call). c.answer) calls
unfolding before past count field_count digits is_number value_from value final_line arc_line line_in line_at read_from read_text idx add names_from names
    arc_count is_final flags state_records arc_records written answer_by answer_of
answers = refl

-- 2, then any number of 3: from 5 to 9 by label 3, from 9 to itself by label 4, 9 final; as part 1 from state 4 on, in a buffer of seventeen 7s
pub bytes : import_def (53 ∷ 9 ∷ 57 ∷ 9 ∷ 51 ∷ 10 ∷ 57 ∷ 9 ∷ 57 ∷ 9 ∷ 52 ∷ 10 ∷ 57 ∷ 10 ∷ []) 1 4
    (7 ∷ 7 ∷ 7 ∷ 7 ∷ 7 ∷ 7 ∷ 7 ∷ 7 ∷ 7 ∷ 7 ∷ 7 ∷ 7 ∷ 7 ∷ 7 ∷ 7 ∷ 7 ∷ 7 ∷ [])
    ≡ import_leaves (row 0 0 16) (2 ∷ 1 ∷ 1 ∷ 2 ∷ 1 ∷ 2 ∷ 3 ∷ 4 ∷ 2 ∷ 2 ∷ 5 ∷ 3 ∷ 5 ∷ 3 ∷ 3 ∷ 5 ∷ 7 ∷ [])
unfolding before past count field_count digits is_number value_from value final_line arc_line line_in line_at read_from read_text idx add names_from names
    arc_count is_final flags state_records arc_records written answer_by answer_of import_def
bytes = refl

-- the README's book: a rule that writes 8, a left part without condition, the focus from the drawing (press, any number of holds, release), a right
-- part without condition, the end
abbrev touch : List ℕ
touch = 48 ∷ 9 ∷ 49 ∷ 9 ∷ 51 ∷ 10 ∷ 49 ∷ 9 ∷ 49 ∷ 9 ∷ 52 ∷ 10 ∷ 49 ∷ 9 ∷ 50 ∷ 9 ∷ 53 ∷ 10 ∷ 50 ∷ 10 ∷ []

abbrev turn : List ℕ
turn = (1 ∷ 1 ∷ 8 ∷ 0 ∷ 0 ∷ 0 ∷ 0 ∷ 0 ∷ 0 ∷ 0 ∷ 2 ∷ 0 ∷ 3 ∷ []) ++ (import_bytes touch 1 1 (replicate 24 0) ++ (2 ∷ 2 ∷ 3 ∷ 4 ∷ []))

pub turn_accepted : check_def turn ≡ record { reply = 0; place = 0; rules = 1; states = 5; arcs = 3 }
unfolding before past count field_count digits is_number value_from value final_line arc_line line_in line_at read_from read_text idx add names_from names
    arc_count is_final flags state_records arc_records written answer_by answer_of import_def record_size symbol_fits symbols_fit rule_reply state_reply given
    arc_reply end_reply kind_reply record_reply with_record book.read_from read_book check_def
turn_accepted = refl

-- its words, and words that it has not
pub turn_words : map (accepts (book_of turn) 0 1) ((2 ∷ 4 ∷ []) ∷ (2 ∷ 3 ∷ 3 ∷ 4 ∷ []) ∷ (2 ∷ 3 ∷ []) ∷ (4 ∷ []) ∷ [] ∷ [])
    ≡ true ∷ true ∷ false ∷ false ∷ false ∷ []
unfolding before past count field_count digits is_number value_from value final_line arc_line line_in line_at read_from read_text idx add names_from names
    arc_count is_final flags state_records arc_records written answer_by answer_of import_def record_size symbol_fits symbols_fit rule_reply state_reply given
    arc_reply end_reply kind_reply record_reply with_record book.read_from read_book book_of leads flagged is_start is_accept accepts
turn_words = refl
