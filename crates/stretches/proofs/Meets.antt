-- The tests of the walk by masks: what the code finds at an end and at a start is what the sets mean, by the laws of set meaning. Assumes nothing.
use Prim.Native.Nat.{ℕ, suc, ◌+◌, ◌-◌, ◌≤◌, ◌<◌}
use mathlib.Core.Path.{◌≡◌, sym, ap, ap₂, ◌∙◌}
use mathlib.Core.Logic.{◌≢◌}
use mathlib.Core.Bool.{Bool, true, false, cond, not, ◌&&◌}
use mathlib.Core.Bool as B
use mathlib.Core.List.{List, []}
use native.Mathlib.Omega.{arith}
use native.Mathlib.Numerals.{add-one}
use borrow.Author.Tests.{eq-eqb, ne_eqb}
use lib.Dec.{T, eqb}
use lib.Bits.{bit_and, bit_or}
use lib.ListN.{length, get_or}
use Rattle.book.specs.Format.{most_rules, focus_part, right_part}
use Rattle.book.specs.Reading.{Book}
use Rattle.book.specs.Language.{up_from, rules}
use Rattle.book.specs.Outline.{left_accepts, focus_starts, focus_accepts, right_starts, all_starts, all_accepts}
use Rattle.sets.specs.Focus.{meets_accept, meets_start, focus_first, opened_by, opened_below}
use Rattle.sets.proofs.Meaning as Meaning
use Rattle.sets.proofs.Meaning.{accept_mask, start_mask, accept_none, empty_none, opened_mask, below_none, below_more, below_all}
use Rattle.stretches.specs.Candidates.{first_of}
use Rattle.stretches.specs.Ready.{Tests}
use Rattle.stretches.specs.Position.{hits, no_rule, hit_rule}
use Rattle.stretches.proofs.First.{first_none}

module _ (b : Book) (n : ℕ) (masks : List ℕ) (m : Tests b n masks) where
  few : n ≤ most_rules
  few = omega (arith, m.many, m.sound.rules)

  -- one rule at an end
  module _ (X R r : ℕ) (known : r < n) where
    low : r < most_rules
    low = omega (arith, few)

    accepting : meets_accept b r focus_part X ≡ not (eqb (bit_and X (get_or masks (focus_accepts r) 0)) 0)
    accepting = accept_mask b m.sound r focus_part X ∙ ap (λ (y : ℕ). not (eqb (bit_and X y) 0)) (sym (m.masked.focus_accepts_lem r low))

    starting : meets_start b r right_part R ≡ not (eqb (bit_and R (get_or masks (right_starts r) 0)) 0)
    starting = start_mask b m.sound r right_part R ∙ ap (λ (y : ℕ). not (eqb (bit_and R y) 0)) (sym (m.masked.right_starts_lem r low))

    pub miss_focus : bit_and X (get_or masks (focus_accepts r) 0) ≡ 0 → false ≡ hits b X R r
    unfolding hits
    miss_focus e = rw (accepting, eq-eqb _ _ e)

    pub miss_right : bit_and R (get_or masks (right_starts r) 0) ≡ 0 → false ≡ hits b X R r
    unfolding hits
    miss_right e = rw (starting, eq-eqb _ _ e) (sym (B.and-false (meets_accept b r focus_part X)))

    pub hit_both : bit_and X (get_or masks (focus_accepts r) 0) ≢ 0 → bit_and R (get_or masks (right_starts r) 0) ≢ 0 → true ≡ hits b X R r
    unfolding hits
    hit_both e f = rw (accepting, starting, ne_eqb _ _ e, ne_eqb _ _ f)

  -- no rule at an end: the set holds no focus accept at all
  pub none_hits : (X R : ℕ) → bit_and X (get_or masks all_accepts 0) ≡ 0 → (r : ℕ) → hits b X R r ≡ false
  unfolding hits
  none_hits X R e r =
      ap (λ (c : Bool). c && meets_start b r right_part R) (accept_none b m.sound r focus_part X (sym (ap (bit_and X) m.masked.all_accepts_lem) ∙ e))

  pub miss_all : (X R : ℕ) → bit_and X (get_or masks all_accepts 0) ≡ 0 → no_rule ≡ hit_rule b X R
  unfolding hit_rule
  miss_all X R e = sym (first_none (hits b X R) 0 (length b.words) no_rule (none_hits X R e))

  -- nothing starts: the right set holds no focus start at all
  pub none_first : (L R : ℕ) → bit_and R (get_or masks all_starts 0) ≡ 0 → 0 ≡ focus_first b L R
  none_first L R e = sym (Meaning.first_none b m.sound L R (sym (ap (bit_and R) m.masked.all_starts_lem) ∙ e))

  -- no focus is empty: no focus state both starts and accepts
  pub none_empty : bit_and (get_or masks all_starts 0) (get_or masks all_accepts 0) ≡ 0 → (r : ℕ) → T ((rules b).focus r []) → ⊥
  none_empty e r = empty_none b m.sound r focus_part (sym (ap₂ bit_and m.masked.all_starts_lem m.masked.all_accepts_lem) ∙ e)

  -- what one rule opens, by its masks
  module _ (L r : ℕ) (known : r < n) where
    opening : opened_by b L r ≡ cond (eqb (bit_and L (get_or masks (left_accepts r) 0)) 0) 0 (get_or masks (focus_starts r) 0)
    opening =
        let low : r < most_rules = omega (arith, few) in
        opened_mask b m.sound L r ∙ sym (ap₂ (λ (x y : ℕ). cond (eqb (bit_and L x) 0) 0 y) (m.masked.left_accepts_lem r low) (m.masked.focus_starts_lem r low))

    pub open_not : bit_and L (get_or masks (left_accepts r) 0) ≡ 0 → 0 ≡ opened_by b L r
    open_not e = rw (opening, eq-eqb _ _ e)

    pub open_own : bit_and L (get_or masks (left_accepts r) 0) ≢ 0 → get_or masks (focus_starts r) 0 ≡ opened_by b L r
    open_own e = rw (opening, ne_eqb _ _ e)

  pub open_start : (L : ℕ) → 0 ≡ opened_below b L 0
  open_start L = sym (below_none b m.sound L)

  pub open_turn : (L r out x : ℕ) → out ≡ opened_below b L r → x ≡ opened_by b L r → bit_or out x ≡ opened_below b L (r + 1)
  open_turn L r out x was e = rw add-one (ap₂ bit_or was e ∙ sym (below_more b m.sound L r))

  pub open_end : (L R r out : ℕ) → out ≡ opened_below b L r → r ≡ n → bit_and out R ≡ focus_first b L R
  open_end L R r out was h = ap (λ (x : ℕ). bit_and x R) was ∙ below_all b m.sound L r R (omega (arith, m.many))

-- the lowest rule: the rest from here is the whole
pub record Seeking (b : Book) (X R n r : ℕ) : Type 0 where
  pub within : r ≤ n
  pub count : n ≡ length b.words
  pub whole : first_of (hits b X R) (up_from r (length b.words - r)) no_rule ≡ hit_rule b X R

pub seek_start : (b : Book) (X R n : ℕ) → n ≡ length b.words → Seeking b X R n 0
unfolding hit_rule
seek_start b X R n e =
    let z : length b.words - 0 ≡ length b.words = omega arith in
    record { within = omega arith; count = e; whole = ap (λ (k : ℕ). first_of (hits b X R) (up_from 0 k) no_rule) z }

module _ (b : Book) (X R n r : ℕ) (was : Seeking b X R n r) where
  rest : ℕ
  rest = first_of (hits b X R) (up_from (suc r) (length b.words - suc r)) no_rule

  split : r < n → cond (hits b X R r) r rest ≡ hit_rule b X R
  unfolding rest
  split h =
      let c = was.count in
      let z : length b.words - r ≡ suc (length b.words - suc r) = omega arith in
      sym (ap (λ (k : ℕ). first_of (hits b X R) (up_from r k) no_rule) z) ∙ was.whole

  pub seek_found : r < n → hits b X R r ≡ true → r ≡ hit_rule b X R
  seek_found h e = sym (ap (λ (c : Bool). cond c r rest) e) ∙ split h

  pub seek_turn : r < n → hits b X R r ≡ false → Seeking b X R n (r + 1)
  unfolding rest
  seek_turn h e = rw add-one (record { within = h; count = was.count; whole = sym (ap (λ (c : Bool). cond c r rest) e) ∙ split h })

  pub seek_end : n ≤ r → no_rule ≡ hit_rule b X R
  seek_end h =
      let c = was.count in
      let z : length b.words - r ≡ 0 = omega arith in
      sym (ap (λ (k : ℕ). first_of (hits b X R) (up_from r k) no_rule) z) ∙ was.whole
