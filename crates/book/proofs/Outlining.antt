-- The outline of an accepted book as far as the walk over its records has come: the places of the states so far and their masks. A rule's record
-- counts, a state's adds a place and a state to the masks, any other changes nothing. Assumes nothing.
use Prim.Native.Nat.{ℕ, ◌+◌, ◌-◌, ◌<◌}
use mathlib.Core.Path.{◌≡◌, refl, sym, ◌∙◌}
use mathlib.Core.List.{List, []}
use native.Mathlib.Omega.{arith}
use lib.ListN.{length, set, length-append}
use Rattle.book.specs.Format.{most_rules, most_states, rule_kind, state_kind, end_kind, byte, pad, record_size}
use Rattle.book.specs.Reading.{Book, empty, check_def, book_of, with_record}
use Rattle.book.specs.Outline.{state_places, mask_count, Masked, Joined, state_bits}
use Rattle.book.proofs.Pad.{pad_nil}
use Rattle.book.proofs.Walk.{Walk, walk_start, walk_passed, walk_last, walk_more, states_more, states_same, words_rule, words_same}
use Rattle.book.proofs.Placing.{Placing, placing_start, placing_here, placing_other, placing_end}
use Rattle.book.proofs.Masking.{Masking, masking_start, masking_more, masked, state_rule}

pub record Outlining (s : List ℕ) (at rules states : ℕ) (places masks : List ℕ) : Type 0 where
  pub book : Book
  pub walk : Walk s at book (book_of s)
  pub placing : Placing state_kind s most_states at states places (length book.states)
  pub many : rules ≡ length book.words
  pub masking : Masking book.states masks

pub outlining_start : (s places masks : List ℕ) → (check_def s).reply ≡ 0 → places ≡ pad most_states [] → masks ≡ pad mask_count []
    → Outlining s 0 0 0 places masks
outlining_start s places masks z e f = record {
  book = empty;
  walk = walk_start s z;
  placing = rw (e ∙ pad_nil most_states) (placing_start state_kind s most_states);
  many = refl;
  masking = masking_start masks f;
}

module _ (s : List ℕ) (at rules states : ℕ) (places masks : List ℕ) (i : Outlining s at rules states places masks) where
  -- a state's record: there is room for it in both arrays
  pub state_fits_in : byte s at ≡ state_kind → (states < most_states) × (0 < rules) × (rules - 1 < most_rules)
  state_fits_in k =
      let z = state_rule s at i.book _ i.walk k in
      (omega (arith, i.placing.same, z.0), omega (arith, i.many, z.1), omega (arith, i.many, z.1, i.walk.sound.rules))

  pub outlining_rule : byte s at ≡ rule_kind → Outlining s (at + record_size (byte s at)) (rules + 1) states places masks
  outlining_rule k =
      let q = walk_passed s at i.book _ i.walk in
      let same = states_same s at i.book (λ e. omega arith) in
      record {
        book = with_record s at i.book;
        walk = walk_more s at i.book _ i.walk (λ e. omega arith);
        placing =
            rw same (placing_other state_kind s most_states at states places _ q.inside (λ e. omega arith) q.known (λ e. omega arith) i.placing);
        many = rw (words_rule s at i.book k, length-append) (omega (arith, i.many));
        masking = rw same i.masking;
      }

  pub outlining_other : (byte s at ≡ end_kind → ⊥) → (byte s at ≡ rule_kind → ⊥) → (byte s at ≡ state_kind → ⊥)
      → Outlining s (at + record_size (byte s at)) rules states places masks
  outlining_other e r k =
      let q = walk_passed s at i.book _ i.walk in
      let same = states_same s at i.book k in
      record {
        book = with_record s at i.book;
        walk = walk_more s at i.book _ i.walk e;
        placing = rw same (placing_other state_kind s most_states at states places _ q.inside e q.known k i.placing);
        many = rw (words_same s at i.book r) i.many;
        masking = rw same i.masking;
      }

  pub outlining_state : (p : ℕ) (l : List ℕ) → p ≡ at → byte s at ≡ state_kind → Joined (state_bits s at states (rules - 1)) masks l
      → Outlining s (at + record_size (byte s at)) rules (states + 1) (set places states p) l
  outlining_state p l e k j =
      let w = walk_passed s at i.book _ i.walk in
      let fits = state_fits_in k in
      let n : states ≡ length i.book.states = i.placing.same in
      record {
        book = with_record s at i.book;
        walk = walk_more s at i.book _ i.walk (λ e. omega arith);
        placing =
            rw (e, states_more s at i.book k, length-append)
            (placing_here state_kind s most_states at states places _ w.inside (λ e. omega arith) w.known k fits.0 i.placing);
        many = rw (words_same s at i.book (λ e. omega arith)) i.many;
        masking =
            masking_more s at i.book _ i.walk (rules - 1) masks l k (omega (arith, i.many, fits.1)) (rw (sym n) j) i.masking;
      }

  pub outlining_end : byte s at ≡ end_kind → (places ≡ state_places s) × Masked (book_of s).states masks
  outlining_end k =
      let q = walk_passed s at i.book _ i.walk in (
        placing_end state_kind s most_states at states places _ q.inside k i.placing,
        rw (← (walk_last s at i.book _ i.walk k)) (masked i.book masks i.walk.sound i.masking),
      )
