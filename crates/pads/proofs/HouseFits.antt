-- Why the program lends an output as long as a tape: the house book's words have one symbol each and none of its focus states both starts and accepts,
-- so that it puts nothing in and no output is longer than its tape. Assumes nothing.
use Prim.Native.Nat.{ℕ, ◌≤◌}
use native.Mathlib.Omega.{arith}
use mathlib.Core.Path.{◌≡◌, refl, ap}
use mathlib.Core.List.{List, []}
use lib.Bits.{bit_and}
use lib.Dec.{T}
use lib.ListN.{length}
use Rattle.book.specs.Format.{focus_part, start_flag, accept_flag, record_size, symbol_fits, symbols_fit, rule_reply, state_reply, given, arc_reply, end_reply, kind_reply}
use Rattle.book.specs.Format.{record_reply}
use Rattle.book.specs.Reading.{with_record, read_from, read_book, book_of}
use Rattle.book.specs.Language.{flagged, rules_in}
use Rattle.book.specs.StateSets.{encode}
use Rattle.book.specs.Outline.{all_mask}
use Rattle.book.specs.House.{house, house_accepted}
use Rattle.book.specs.declared.Checked.{Checked}
use Rattle.book.proofs.Claims.{sound}
use Rattle.sets.proofs.Meaning.{empty_none}
use Rattle.stretches.specs.Lists.{greatest}
use Rattle.stretches.specs.Output.{rewriting}
use Rattle.output.specs.Passes.{longest_in}
use Rattle.output.proofs.Limits.{replaced_most}

one_symbol : longest_in (rules_in house) ≡ 1
unfolding longest_in greatest house record_size symbol_fits symbols_fit rule_reply state_reply given arc_reply end_reply kind_reply record_reply with_record
    read_from read_book book_of
one_symbol = refl

apart : bit_and (all_mask focus_part start_flag (book_of house).states) (all_mask focus_part accept_flag (book_of house).states) ≡ 0
unfolding all_mask encode flagged house record_size symbol_fits symbols_fit rule_reply state_reply given arc_reply end_reply kind_reply record_reply with_record read_from
    read_book book_of
apart = refl

nothing_in : (r : ℕ) → T ((rules_in house).focus r []) → ⊥
nothing_in r = empty_none (book_of house) (sound house (ap (λ (c : Checked). c.reply) house_accepted)) r focus_part apart

pub house_fits : (t : List ℕ) → length (rewriting (rules_in house) t) ≤ length t
house_fits t = let m = one_symbol in omega (arith, replaced_most (rules_in house) t nothing_in 1 (omega arith) (omega arith))
