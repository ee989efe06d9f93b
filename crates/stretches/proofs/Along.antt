-- The walk over a tape, position after position, where only the end of the last stretch is kept. Assumes nothing.
use Prim.Native.Nat.{ℕ, suc, ◌-◌, ◌≤◌, ◌<◌}
use mathlib.Core.Path.{◌≡◌, refl, subst, sym, ap, ap₂, ◌∙◌}
use mathlib.Core.Logic.{◌≢◌, by_cases}
use mathlib.Core.Bool.{Bool, true, false, cond, ◌&&◌}
use mathlib.Core.List.{List, [], ◌∷◌, ◌++◌, append-nil}
use native.Mathlib.Omega.{arith}
use native.Mathlib.Decide.{dec_lt}
use borrow.Author.Tests.{lt-ltb, le-ltb}
use lib.Dec.{T, eqb, ltb, eqb→eq, eqb_refl}
use lib.ListN.{length, get_or, take, drop_of_length-le}
use lib.Seq.{drop-cons}
use Rattle.book.specs.Language.{Rules}
use Rattle.book.proofs.Tests.{and_both, and_right}
use Rattle.stretches.specs.Candidates.{Stretch, candidate, some_rule, longest, rule_of, fresh, over_tape, taken_at, taken}
use Rattle.stretches.specs.Output.{Mark, written, written_at, rewriting, kept_marks}
use Rattle.stretches.specs.Account.{each}
use Rattle.stretches.proofs.Lists.{keep_not, keep_yes}
use Rattle.stretches.proofs.First.{first_hit, first_miss}
use Rattle.stretches.proofs.Walks.{over, over_suc, over_zero, stands, cover_in, cover_new, symbol_at, tape_over, longest_high}
use Rattle.stretches.specs.Position.{no_rule, lowest, TakenHere, word_here, kept_at, marks_at, takes_at, end_next}

-- the symbol that is kept: none where a stretch covers it, none at the tape's end
module _ (t : List ℕ) (i end : ℕ) where
  pub kept_in : i < end → kept_at t i end ≡ []
  unfolding kept_at
  kept_in h = rw (lt-ltb i end h)

  pub kept_free : i < length t → end ≤ i → kept_at t i end ≡ record { symbol = get_or t i 0; origin = i } ∷ []
  unfolding kept_at
  kept_free g h = rw (le-ltb i end h) (ap (λ (x : List ℕ). kept_marks (take 1 x) i) (drop-cons t i 0 g))

  pub kept_last : length t ≤ i → kept_at t i end ≡ []
  unfolding kept_at
  kept_last h = ap (λ (x : List ℕ). cond (ltb i end) [] (kept_marks (take 1 x) i)) (drop_of_length-le t {i = i} h) ∙ none (ltb i end)
    where
      none : (c : Bool) → ◌≡◌ {A = List Mark} (cond c [] []) []
      none true = refl
      none false = refl

module _ (b : Rules) (t : List ℕ) where
  -- what f says from i on
  abbrev pub from {ℓ} : {A : Type ℓ} → (ℕ → List ℕ → Stretch → List A) → ℕ → List A
  from f i = each (λ (k : ℕ). f k (symbol_at b t k) (over b t k)) i (suc (length t) - i)

  pub from_all {ℓ} : {A : Type ℓ} (f : ℕ → List ℕ → Stretch → List A) → over_tape f b t ≡ from f 0
  from_all f =
      let e : suc (length t) ≡ suc (length t) - 0 = omega arith in tape_over b t f ∙ ap (λ (n : ℕ). each (λ (k : ℕ). f k (symbol_at b t k) (over b t k)) 0 n) e

  pub from_step {ℓ} : {A : Type ℓ} (f : ℕ → List ℕ → Stretch → List A) (i : ℕ) → i ≤ length t → from f i ≡ f i (symbol_at b t i) (over b t i) ++ from f (suc i)
  from_step f i h =
      let e : suc (length t) - i ≡ suc (suc (length t) - suc i) = omega arith in
      ap (each (λ (k : ℕ). f k (symbol_at b t k) (over b t k)) i) e

  -- past the tape's end there is nothing
  pub from_past {ℓ} : {A : Type ℓ} (f : ℕ → List ℕ → Stretch → List A) (i : ℕ) → length t ≤ i → from f (suc i) ≡ []
  from_past f i h =
      let e : suc (length t) - suc i ≡ 0 = omega arith in
      ap (each (λ (k : ℕ). f k (symbol_at b t k) (over b t k)) (suc i)) e

  -- the last stretch before i ends at `end`
  pub record At (i end : ℕ) : Type 0 where
    pub begins : end ≤ i → over b t i ≡ fresh b t i
    pub before : i < end → (over b t i).start < i
    pub ends : i < end → (over b t i).end ≡ end

  pub at_start : At 0 0
  at_start = record { begins = λ h. over_zero b t; before = λ h. absurd (omega arith); ends = λ h. absurd (omega arith) }

  pub at_end : (i end : ℕ) → At i end → (over b t i).end ≡ end_next b t i end
  unfolding end_next
  at_end i end a = by_cases (dec_lt i end)
      (λ h. rw (lt-ltb i end h) (a.ends h))
      (λ h. rw (le-ltb i end (omega arith)) (ap (λ (d : Stretch). d.end) (a.begins (omega arith))))

  pub at_turn : (i end : ℕ) → At i end → At (suc i) (end_next b t i end)
  at_turn i end a =
      let e = at_end i end a in
      let c = over b t i in
      let l = (stands b t i).low in
      let held : suc i < end_next b t i end → over b t (suc i) ≡ over b t i = λ h. over_suc b t i ∙ cover_in b t (suc i) c (omega arith) in
      record {
        begins = λ h. over_suc b t i ∙ cover_new b t (suc i) c (omega arith);
        before = λ h. let g = ap (λ (d : Stretch). d.start) (held h) in omega arith;
        ends = λ h. ap (λ (d : Stretch). d.end) (held h) ∙ e;
      }

  -- at the tape's end no stretch goes on
  at_last : (i end : ℕ) → i ≡ length t → At i end → end ≤ i
  at_last i end e a = by_cases (dec_lt i end)
      (λ g. let d = over b t i in
      let far : d.end ≡ longest b t d.start = ap (λ (c : Stretch). c.end) (stands b t i).is in
      let l = (stands b t i).low in
      omega (arith, a.ends g, far, longest_high b t d.start (omega arith)))
      (λ g. omega arith)

  pub at_marks : (i end : ℕ) → At i end → written_at b t i (symbol_at b t i) (over b t i) ≡ marks_at b t i end
  unfolding marks_at word_here kept_at
  at_marks i end a = by_cases (dec_lt i end)
      (λ h. rw (lt-ltb i end h, lt-ltb (over b t i).start i (a.before h)))
      (λ h. rw (le-ltb i end (omega arith)) (ap (written_at b t i (symbol_at b t i)) (a.begins (omega arith)) ∙ rw (le-ltb i i (omega arith))))

  other : (m n : ℕ) (c : Bool) → m ≢ n → T (eqb m n && c) → ⊥
  other m n c h = go (eqb m n) (λ x. h (eqb→eq m n x))
    where
      go : (d : Bool) → (T d → ⊥) → T (d && c) → ⊥
      go true k x = k tt
      go false k x = x

  pub at_takes : (i end : ℕ) → At i end → taken_at i (symbol_at b t i) (over b t i) ≡ takes_at b t i end
  unfolding takes_at
  at_takes i end a = by_cases (dec_lt i end)
      (λ h. let d = over b t i in let g = a.before h in
      rw (lt-ltb i end h) (keep_not (eqb d.start i && d.taken) d (other d.start i d.taken (λ q. omega arith))))
      (λ h. rw (le-ltb i end (omega arith)) (ap (taken_at i (symbol_at b t i)) (a.begins (omega arith))))

  -- one position, the tape's end among them
  pub marks_step : (i end : ℕ) → i ≤ length t → At i end → from (written_at b t) i ≡ marks_at b t i end ++ from (written_at b t) (suc i)
  marks_step i end h a = from_step (written_at b t) i h ∙ ap (λ (x : List Mark). x ++ from (written_at b t) (suc i)) (at_marks i end a)

  pub takes_step : (i end : ℕ) → i ≤ length t → At i end → from taken_at i ≡ takes_at b t i end ++ from taken_at (suc i)
  takes_step i end h a = from_step taken_at i h ∙ ap (λ (x : List Stretch). x ++ from taken_at (suc i)) (at_takes i end a)

  pub marks_all : rewriting b t ≡ from (written_at b t) 0
  unfolding rewriting
  marks_all = from_all (written_at b t)

  pub takes_all : taken b t ≡ from taken_at 0
  unfolding taken
  takes_all = from_all taken_at

  -- inside a stretch
  pub marks_in : (i end : ℕ) → i < end → marks_at b t i end ≡ []
  unfolding marks_at
  marks_in i end h = rw (lt-ltb i end h)

  pub takes_in : (i end : ℕ) → i < end → takes_at b t i end ≡ []
  unfolding takes_at
  takes_in i end h = rw (lt-ltb i end h)

  pub end_in_lem : (i end : ℕ) → i < end → end ≡ end_next b t i end
  unfolding end_next
  end_in_lem i end h = rw (lt-ltb i end h)

  pub end_new : (i end : ℕ) → end ≤ i → longest b t i ≡ end_next b t i end
  unfolding end_next
  end_new i end h = rw (le-ltb i end h)

  -- a free position: the word, and the symbol
  pub marks_free : (i end : ℕ) → end ≤ i → marks_at b t i end ≡ word_here b t i ++ kept_at t i (longest b t i)
  unfolding marks_at
  marks_free i end h = rw (le-ltb i end h)

  -- nothing is taken
  pub word_none : (i : ℕ) → some_rule b t i (longest b t i) ≡ false → word_here b t i ≡ []
  unfolding word_here
  word_none i e = rw e

  pub takes_none : (i end : ℕ) → end ≤ i → some_rule b t i (longest b t i) ≡ false → takes_at b t i end ≡ []
  unfolding takes_at
  takes_none i end h e =
      rw (le-ltb i end h) (keep_not (eqb i i && (fresh b t i).taken) (fresh b t i) (λ x. subst T e (and_right (eqb i i) (fresh b t i).taken x)))

  -- a stretch is taken, empty or not
  pub word_some : (i : ℕ) → some_rule b t i (longest b t i) ≡ true → word_here b t i ≡ written b t i (longest b t i)
  unfolding word_here
  word_some i e = rw e

  pub takes_one : (i end : ℕ) → end ≤ i → some_rule b t i (longest b t i) ≡ true → length (takes_at b t i end) ≡ 1
  unfolding takes_at
  takes_one i end h e =
      rw (le-ltb i end h) (ap length (keep_yes (eqb i i && (fresh b t i).taken) (fresh b t i)
      (and_both (eqb i i) (fresh b t i).taken (eqb_refl i) (subst T (sym e) tt))))

  -- whichever stretch ended before
  pub takes_free : (i end : ℕ) → end ≤ i → takes_at b t i end ≡ takes_at b t i i
  unfolding takes_at
  takes_free i end h = rw (le-ltb i end h, le-ltb i i (omega arith))

  -- at the tape's end: a word may be put in, and no symbol is left
  module _ (i end : ℕ) (last : i ≡ length t) (a : At i end) where
    pub marks_last : from (written_at b t) i ≡ word_here b t i
    marks_last =
        marks_step i end (omega arith) a
        ∙ ap₂ ◌++◌ (marks_free i end (at_last i end last a) ∙ ap (λ (k : List Mark). word_here b t i ++ k) (kept_last t i (longest b t i) (omega arith))
        ∙ append-nil (word_here b t i)) (from_past (written_at b t) i (omega arith))
        ∙ append-nil (word_here b t i)

    pub takes_last : from taken_at i ≡ takes_at b t i i
    takes_last =
        takes_step i end (omega arith) a
        ∙ ap₂ ◌++◌ (takes_free i end (at_last i end last a)) (from_past taken_at i (omega arith))
        ∙ append-nil (takes_at b t i i)

  -- the rule says whether anything is taken
  module _ (few : length b.words ≤ no_rule) (i end rule : ℕ) (took : TakenHere b t i end rule) where
    far_rule : rule ≡ lowest b t i (longest b t i)
    far_rule = took.who ∙ ap (lowest b t i) took.far

    pub took_none : rule ≡ no_rule → some_rule b t i (longest b t i) ≡ false
    took_none k = first_miss (candidate b t i (longest b t i)) 0 (length b.words) no_rule (omega arith) (sym far_rule ∙ k)

    pub took_some : rule ≢ no_rule → (some_rule b t i (longest b t i) ≡ true) × (rule ≡ rule_of b t i (longest b t i))
    took_some k =
        let z = first_hit (candidate b t i (longest b t i)) 0 (length b.words) no_rule 0 (λ q. k (far_rule ∙ q)) in
        (z.0, far_rule ∙ z.1)
