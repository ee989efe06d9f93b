-- The refusals before anything is built: each way down their order gives what the definition says, and a call that passes them all has an
-- accepted book, a tape of symbols that is not too long, and buffers that are long enough. Assumes nothing.
use Prim.Native.Nat.{ℕ, zero, suc, ◌≤◌, ◌<◌}
use mathlib.Core.Path.{◌≡◌, refl, sym, ap, ◌∙◌}
use mathlib.Core.List.{List, [], ◌∷◌}
use mathlib.Core.Bool.{Bool, true, false, cond, not, ◌||◌, or-true}
use native.Mathlib.Omega.{arith}
use native.Mathlib.Decide.{ℕ_discrete, dec_lt}
use lib.Dec.{leb, ltb, eqb}
use lib.ListN.{length}
use borrow.Author.Tests.{eq-eqb, ne_eqb, lt-ltb, le-ltb, ltb-true, ltb-false, le-leb, lt-leb, leb-false}
use Rattle.book.specs.Format.{symbol_count}
use Rattle.book.specs.Reading.{check_def}
use Rattle.book.proofs.Tests.{or_none}
use Rattle.sets.specs.Workspace.{row_bytes, set_words}
use Rattle.stretches.specs.Buffers.{longest_tape}
use Rattle.stretches.specs.Lists.{greatest}
use Rattle.rewriter.specs.Replies.{first_bad, refusal, early}
use Rattle.rewriter.specs.Opening.{Symbols, tape_refusal}
use Rattle.rewriter.specs.Replies.{Refusal}
use Rattle.std.specs.Prelude.{Option, Some, None, MatchOption, position, nat_le}
use Rattle.std.specs.List.{position_or_len}
use Rattle.stretches.proofs.Greatest.{greatest_all}

-- the first bad symbol is the one that a search finds
bad_first : (t : List ℕ) → first_bad t ≡ position_or_len (λ x. nat_le symbol_count x) t
unfolding first_bad
bad_first [] = refl
bad_first (x ∷ t) = by (dec_lt x symbol_count) (bad_first t)
  where
    by : Dec (x < symbol_count) → first_bad t ≡ position_or_len (λ y. nat_le symbol_count y) t
        → first_bad (x ∷ t) ≡ position_or_len (λ y. nat_le symbol_count y) (x ∷ t)
    by (yes h) e = simp (lt-ltb _ _ h, lt-leb _ _ h) (omega arith)
    by (no h) e = simp (le-ltb x symbol_count (omega arith), le-leb symbol_count x (omega arith))

bad_most : (t : List ℕ) → first_bad t ≤ length t
unfolding first_bad
bad_most [] = omega arith
bad_most (x ∷ t) = by (ltb x symbol_count) (bad_most t)
  where
    by : (c : Bool) → first_bad t ≤ length t → cond c (suc (first_bad t)) 0 ≤ suc (length t)
    by true h = omega arith
    by false h = omega arith

pub bad_found : (t : List ℕ) (r : Option ℕ) → r ≡ position (λ x. nat_le symbol_count x) t
    → MatchOption r (first_bad t ≡ length t) (λ i. (i ≡ first_bad t) × (i < length t))
bad_found t r e = by (dec_lt (first_bad t) (length t))
  where
    is : r ≡ cond (ltb (first_bad t) (length t)) (Some (first_bad t)) None
    is = e ∙ ap (λ (n : ℕ). cond (ltb n (length t)) (Some n) None) (sym (bad_first t))

    by : Dec (first_bad t < length t) → MatchOption r (first_bad t ≡ length t) (λ i. (i ≡ first_bad t) × (i < length t))
    by (yes h) = rw (is, lt-ltb _ _ h) (refl, h)
    by (no h) = (let m = bad_most t in rw (is, le-ltb (first_bad t) (length t) (omega arith)) (omega arith))

-- no symbol is bad
head_good : (test : Bool) (n m : ℕ) → suc n ≤ cond test (suc m) 0 → (test ≡ true) × (n ≤ m)
head_good true n m h = (refl, omega arith)
head_good false n m h = absurd (omega arith)

pub all_good : (t : List ℕ) → length t ≤ first_bad t → Symbols t
unfolding first_bad
all_good [] h i g = absurd (omega arith)
all_good (x ∷ t) h zero g = ltb-true x symbol_count (head_good (ltb x symbol_count) (length t) (first_bad t) h).0
all_good (x ∷ t) h (suc i) g = all_good t (head_good (ltb x symbol_count) (length t) (first_bad t) h).1 i (omega arith)

pub none_bad : (t : List ℕ) → Symbols t → first_bad t ≡ length t
unfolding first_bad
none_bad [] h = refl
none_bad (x ∷ t) h = simp (lt-ltb x symbol_count (h 0 (omega arith))) (ap suc (none_bad t (λ i g. h (suc i) (omega arith))))

-- where the greatest symbol is not bad
pub bad_none : (t : List ℕ) (top : ℕ) → top ≡ greatest 0 t → top < symbol_count → length t ≡ first_bad t
bad_none t top e h = sym (none_bad t (λ i g. omega (arith, greatest_all t 0 i g)))

-- a tape's own refusals: each way down, and what a tape has that neither refuses
module _ (tape : List ℕ) where
  pub tape_long : longest_tape < length tape → refusal 9 0 ≡ tape_refusal tape
  unfolding tape_refusal
  tape_long h = simp (lt-ltb _ _ h)

  module _ (fits : length tape ≤ longest_tape) where
    pub tape_bad : first_bad tape < length tape → refusal 10 (first_bad tape) ≡ tape_refusal tape
    unfolding tape_refusal
    tape_bad h = simp (le-ltb _ _ fits, lt-ltb _ _ h)

    pub tape_good : length tape ≤ first_bad tape → refusal 0 0 ≡ tape_refusal tape
    unfolding tape_refusal
    tape_good h = simp (le-ltb _ _ fits, le-ltb _ _ h)

past : (test : Bool) (n p : ℕ) (rest : Refusal) → (cond test (refusal (suc n) p) rest).reply ≡ 0 → (test ≡ false) × (rest.reply ≡ 0)
past true n p rest e = absurd (let q : suc n ≡ 0 = e in omega arith)
past false n p rest e = (refl, e)

pub tape_passed : (tape : List ℕ) → (tape_refusal tape).reply ≡ 0 → (length tape ≤ longest_tape) × (length tape ≤ first_bad tape)
unfolding tape_refusal
tape_passed tape e =
    let p9 = past (ltb longest_tape (length tape)) 8 0 _ e in
    let p10 = past (ltb (first_bad tape) (length tape)) 9 (first_bad tape) _ p9.1 in
    (ltb-false _ _ p9.0, ltb-false _ _ p10.0)

pub tape_not_15 : (tape : List ℕ) → (tape_refusal tape).reply ≡ 15 → ⊥
unfolding tape_refusal
tape_not_15 tape = by (ltb longest_tape (length tape)) (ltb (first_bad tape) (length tape))
  where
    by : (a b : Bool) → (cond a (refusal 9 0) (cond b (refusal 10 (first_bad tape)) (refusal 0 0))).reply ≡ 15 → ⊥
    by true b e = let q : ◌≡◌ {A = ℕ} 9 15 = e in omega arith
    by false true e = let q : ◌≡◌ {A = ℕ} 10 15 = e in omega arith
    by false false e = let q : ◌≡◌ {A = ℕ} 0 15 = e in omega arith

-- each way down, with the tests before it in hand
module _ (book tape : List ℕ) (rows sets scratch : ℕ) where
  pub early_book : ((check_def book).reply ≡ 0 → ⊥) → refusal (check_def book).reply (check_def book).place ≡ early book tape rows sets scratch
  unfolding early
  early_book h = simp (ne_eqb _ _ h)

  module _ (z : (check_def book).reply ≡ 0) where
    pub early_tape : ((tape_refusal tape).reply ≡ 0 → ⊥) → tape_refusal tape ≡ early book tape rows sets scratch
    unfolding early tape_refusal
    early_tape h = simp (eq-eqb _ _ z) (by (ltb longest_tape (length tape)) (ltb (first_bad tape) (length tape)) _ h)
      where
        by : (a b : Bool) (rest : Refusal) → ((cond a (refusal 9 0) (cond b (refusal 10 (first_bad tape)) (refusal 0 0))).reply ≡ 0 → ⊥)
            → cond a (refusal 9 0) (cond b (refusal 10 (first_bad tape)) (refusal 0 0)) ≡ cond a (refusal 9 0) (cond b (refusal 10 (first_bad tape)) rest)
        by true b rest h = refl
        by false true rest h = refl
        by false false rest h = absurd (h refl)

    module _ (fits : length tape ≤ longest_tape) where
      module _ (good : length tape ≤ first_bad tape) where
        pub early_rows : rows < row_bytes → refusal 11 0 ≡ early book tape rows sets scratch
        unfolding early
        early_rows h = simp (eq-eqb _ _ z, le-ltb _ _ fits, le-ltb _ _ good, lt-ltb _ _ h)

        pub early_sets : sets < set_words → refusal 11 0 ≡ early book tape rows sets scratch
        unfolding early
        early_sets h = simp (eq-eqb _ _ z, le-ltb _ _ fits, le-ltb _ _ good, lt-ltb _ _ h, or-true)

        module _ (long : row_bytes ≤ rows) (wide : set_words ≤ sets) where
          pub early_scratch : scratch ≤ length tape → refusal 12 0 ≡ early book tape rows sets scratch
          unfolding early
          early_scratch h = simp (eq-eqb _ _ z, le-ltb _ _ fits, le-ltb _ _ good, le-ltb _ _ long, le-ltb _ _ wide, le-leb _ _ h)

          pub early_none : length tape < scratch → refusal 0 0 ≡ early book tape rows sets scratch
          unfolding early
          early_none h = simp (eq-eqb _ _ z, le-ltb _ _ fits, le-ltb _ _ good, le-ltb _ _ long, le-ltb _ _ wide, lt-leb _ _ h)

-- what a call has that none of them refuses
pub record Admitted (book tape : List ℕ) (rows sets scratch : ℕ) : Type 0 where
  pub accepted : (check_def book).reply ≡ 0
  pub fits : length tape ≤ longest_tape
  pub symbols : Symbols tape
  pub rows_room : row_bytes ≤ rows
  pub sets_room : set_words ≤ sets
  pub scratch_room : length tape < scratch

past_book : (r p : ℕ) (rest : Refusal) → (cond (not (eqb r 0)) (refusal r p) rest).reply ≡ 0 → (r ≡ 0) × (rest.reply ≡ 0)
past_book r p rest e = by (ℕ_discrete r 0)
  where
    by : Dec (r ≡ 0) → (r ≡ 0) × (rest.reply ≡ 0)
    by (yes z) = (z, simp (eq-eqb r 0 z) at e)
    by (no h) = absurd (h (simp (ne_eqb r 0 h) at e))

pub admitted : (book tape : List ℕ) (rows sets scratch : ℕ) → (early book tape rows sets scratch).reply ≡ 0 → Admitted book tape rows sets scratch
unfolding early
admitted book tape rows sets scratch e =
    let p = past_book (check_def book).reply (check_def book).place _ e in
    let p9 = past (ltb longest_tape (length tape)) 8 0 _ p.1 in
    let p10 = past (ltb (first_bad tape) (length tape)) 9 (first_bad tape) _ p9.1 in
    let p11 = past (ltb rows row_bytes || ltb sets set_words) 10 0 _ p10.1 in
    let p12 = past (leb scratch (length tape)) 11 0 _ p11.1 in
    let room = or_none (ltb rows row_bytes) (ltb sets set_words) p11.0 in
    record {
      accepted = p.0;
      fits = ltb-false _ _ p9.0;
      symbols = all_good tape (ltb-false _ _ p10.0);
      rows_room = ltb-false _ _ room.0;
      sets_room = ltb-false _ _ room.1;
      scratch_room = leb-false _ _ p12.0;
    }
