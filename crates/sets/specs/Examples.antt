-- The house book, built by the definition: two left sets and fourteen right sets, its first rows, and what stands before and past the
-- parts of a workspace that held 255 everywhere; and a set workspace that is too short by one.
use Rattle.std.specs.Prelude.{ℕ, ◌+◌, ◌-◌, ◌*◌, List, [], ◌∷◌, ◌++◌, ◌≡◌, refl, take, drop, replicate}
use Rattle.book.specs.Format.{symbol_count, record_size, symbol_fits, symbols_fit, rule_reply, state_reply, given, arc_reply, end_reply, kind_reply, record_reply}
use Rattle.book.specs.Reading.{with_record, read_from, read_book, check_def, book_of}
use Rattle.book.specs.Language.{flagged, is_start}
use Rattle.book.specs.StateSets.{member, encode}
use Rattle.book.specs.Before.{high_book, reply_below, read_below, read_all_below, check_below, book_below}
use Rattle.book.specs.House.{house}
use Rattle.sets.specs.Sets.{set_of, into_by, back_by, left_first, left_next, closed, right_last, right_prev}
use Rattle.sets.specs.Numbering.{most_sets, idx, enter, next, met, turn, run, all, pad}
use Rattle.sets.specs.Workspace.{row_bytes, set_words, left_table, right_table, AfterBuild, refusal, numbered, build_def}
use Rattle.sets.specs.Before.{next_below, turn_below, run_below, pairs_below, bytes_below, left_below, right_below, numbered_below, build_below}

-- with w symbols, the answer; the first three left rows and two right rows; the first three left sets and fifteen right sets; what stands past the parts
abbrev shown : ℕ → AfterBuild → List (List ℕ)
shown w x =
    (x.answer.reply ∷ x.answer.place ∷ x.answer.left ∷ x.answer.right ∷ []) ∷
    take (3 * w) x.rows ∷
    take (2 * w) (drop (pairs_below w) x.rows) ∷
    take 3 x.sets ∷
    take 15 (drop most_sets x.sets) ∷
    drop (bytes_below w) x.rows ∷
    drop set_words x.sets ∷
    []

-- a row is its first next numbers, and 0 on the later symbols
abbrev house_table : ℕ → List (List ℕ)
house_table w =
    (0 ∷ 0 ∷ 2 ∷ 14 ∷ []) ∷
    (pad w (0 ∷ 1 ∷ []) ++ (pad w (0 ∷ 1 ∷ []) ++ pad w [])) ∷
    (pad w (1 ∷ 0 ∷ 0 ∷ 0 ∷ 2 ∷ 3 ∷ []) ++ pad w (4 ∷ 0 ∷ 0 ∷ 0 ∷ 2 ∷ 3 ∷ [])) ∷
    (4161 ∷ 4163 ∷ 0 ∷ []) ∷
    (264240 ∷ 395312 ∷ 264248 ∷ 265776 ∷ 493616 ∷ 264244 ∷ 264504 ∷ 280632 ∷ 264372 ∷ 264496 ∷ 272436 ∷ 280624 ∷ 264368 ∷ 272432 ∷ 0 ∷ []) ∷
    (255 ∷ 255 ∷ []) ∷
    (255 ∷ []) ∷
    []

pub house_built : shown symbol_count (build_def house (replicate (row_bytes + 2) 255) (replicate (set_words + 1) 255)) ≡ house_table symbol_count
unfolding house record_size symbol_fits symbols_fit rule_reply state_reply given arc_reply end_reply kind_reply record_reply
    with_record read_from read_book check_def book_of flagged is_start member encode
    set_of into_by back_by left_first left_next closed right_last right_prev idx enter next met turn run all pad left_table right_table numbered build_def
house_built = refl

-- before document 02, No. 6, with sixteen symbols: the same, in shorter rows
pub house_before : shown 16 (build_below 16 house (replicate 8194 255) (replicate (set_words + 1) 255)) ≡ house_table 16
unfolding house record_size symbol_fits symbols_fit rule_reply state_reply given arc_reply end_reply kind_reply record_reply
    with_record high_book reply_below read_below read_all_below check_below book_below flagged is_start member encode
    set_of into_by back_by left_first left_next closed right_last right_prev idx enter met pad
    next_below turn_below run_below left_below right_below numbered_below build_below
house_before = refl

pub house_short : (build_def house (replicate row_bytes 255) (replicate (set_words - 1) 255)).answer ≡ refusal 11 0
unfolding house record_size symbol_fits symbols_fit rule_reply state_reply given arc_reply end_reply kind_reply record_reply
    with_record read_from read_book check_def build_def
house_short = refl
