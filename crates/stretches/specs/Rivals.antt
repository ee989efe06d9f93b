-- Document 02, No. 1, worked by hand: "A sixth word gives the rule of the deciding stretch (its own for verdict 0)". A tape on which each verdict
-- stands, no line that is not taken is decided by its own rule, and the stretch taken last is of another rule than the one that decides them.
use Rattle.std.specs.Prelude.{ℕ, List, [], ◌∷◌, map, ◌≡◌, refl}
use Rattle.book.specs.Format.{record_size, symbol_fits, symbols_fit, rule_reply, state_reply, given, arc_reply, end_reply, kind_reply, record_reply}
use Rattle.book.specs.Reading.{with_record, read_from, read_book, book_of}
use Rattle.book.specs.Language.{leads, flagged, is_start, is_accept, accepts, rules_in}
use Rattle.stretches.specs.Candidates.{candidate, longest}
use Rattle.stretches.specs.Account.{account, line_words}

-- rule 0 makes each 1 and each 2 a 7, rules 1 and 2 make each 1 2 an 8 and a 9; no condition on either side
unfoldable pub rivals : List ℕ
rivals =
    1 ∷ 1 ∷ 7 ∷ 0 ∷ 0 ∷ 0 ∷ 0 ∷ 0 ∷ 0 ∷ 0 ∷
    2 ∷ 0 ∷ 3 ∷
    2 ∷ 1 ∷ 1 ∷
    2 ∷ 1 ∷ 2 ∷
    2 ∷ 2 ∷ 3 ∷
    3 ∷ 1 ∷ 1 ∷ 2 ∷ 2 ∷
    1 ∷ 1 ∷ 8 ∷ 0 ∷ 0 ∷ 0 ∷ 0 ∷ 0 ∷ 0 ∷ 0 ∷
    2 ∷ 0 ∷ 3 ∷
    2 ∷ 1 ∷ 1 ∷
    2 ∷ 1 ∷ 0 ∷
    2 ∷ 1 ∷ 2 ∷
    2 ∷ 2 ∷ 3 ∷
    3 ∷ 5 ∷ 1 ∷ 1 ∷ 6 ∷
    3 ∷ 6 ∷ 2 ∷ 2 ∷ 7 ∷
    1 ∷ 1 ∷ 9 ∷ 0 ∷ 0 ∷ 0 ∷ 0 ∷ 0 ∷ 0 ∷ 0 ∷
    2 ∷ 0 ∷ 3 ∷
    2 ∷ 1 ∷ 1 ∷
    2 ∷ 1 ∷ 0 ∷
    2 ∷ 1 ∷ 2 ∷
    2 ∷ 2 ∷ 3 ∷
    3 ∷ 10 ∷ 1 ∷ 1 ∷ 11 ∷
    3 ∷ 11 ∷ 2 ∷ 2 ∷ 12 ∷
    4 ∷
    []

-- rule 1 takes 1 2 from its start, so it beats rule 0 there, rule 2 on the same stretch, and rule 0 inside; then rule 0 takes the last 1
pub each_verdict : map line_words (account (rules_in rivals) (1 ∷ 2 ∷ 1 ∷ [])) ≡
    (0 ∷ 0 ∷ 1 ∷ 1 ∷ 0 ∷ 1 ∷ []) ∷
    (1 ∷ 0 ∷ 2 ∷ 0 ∷ 0 ∷ 1 ∷ []) ∷
    (2 ∷ 0 ∷ 2 ∷ 2 ∷ 0 ∷ 1 ∷ []) ∷
    (0 ∷ 1 ∷ 2 ∷ 3 ∷ 0 ∷ 1 ∷ []) ∷
    (0 ∷ 2 ∷ 3 ∷ 0 ∷ 2 ∷ 0 ∷ []) ∷
    []
unfolding rivals record_size symbol_fits symbols_fit rule_reply state_reply given arc_reply end_reply kind_reply record_reply with_record read_from read_book
    book_of leads flagged is_start is_accept accepts candidate longest account
each_verdict = refl
