-- What one position does to the outputs and to the number of stretches taken: nothing inside a stretch; else the word of the stretch that is taken
-- there, if one is, and then the symbol, if that stretch does not cover it. Assumes nothing.
use Prim.Native.Nat.{ℕ, ◌+◌, ◌≤◌, ◌<◌}
use native.Mathlib.Omega.{arith}
use mathlib.Core.Path.{◌≡◌, refl, sym, ◌∙◌, ap}
use mathlib.Core.Logic.{◌≢◌}
use mathlib.Core.Bool.{true, false}
use mathlib.Core.List.{List, [], ◌∷◌, ◌++◌}
use Rattle.std.specs.Prelude.{Option, Some, None, IfSome}
use lib.Bits.{bit_and, and_zero_l}
use lib.ListN.{length, get_or}
use Rattle.book.specs.Format.{most_rules}
use Rattle.book.specs.Reading.{Book, book_of}
use Rattle.book.specs.Outline.{all_starts, all_accepts}
use Rattle.book.proofs.Claims.{some_rule_lem, sound}
use Rattle.sets.specs.Sets.{left_at}
use Rattle.sets.specs.Tables.{right_set}
use Rattle.stretches.specs.Candidates.{candidate, some_rule, longest, rule_of}
use Rattle.stretches.specs.Output.{Mark, marks, word_marks, rule_word}
use Rattle.stretches.specs.Position.{no_rule, end_of, rule_in, TakenHere, word_here, kept_at, marks_at, end_next}
use Rattle.stretches.specs.declared.pass.Pass.{Pass}
use Rattle.stretches.specs.declared.walk.Taken.{Taken}
use Rattle.output.specs.Passes.{by, along, MarksFit, MarksPut, Moved}
use Rattle.output.specs.declared.words.Outputs.{Outputs}
use Rattle.output.specs.declared.passes.Spot.{Spot}
use Rattle.stretches.proofs.Walks.{longest_low, longest_high}
use Rattle.stretches.proofs.First.{first_below}
use Rattle.stretches.proofs.Meets.{none_first, miss_all}
use Rattle.stretches.proofs.Scans.{walk_start, walk_dead}
use Rattle.stretches.proofs.Along.{kept_in, kept_free, marks_in, marks_free, word_none, word_some, took_none, took_some}
use Rattle.stretches.proofs.Along.{takes_in, takes_none, takes_one, takes_free, end_in_lem, end_new}
use Rattle.output.proofs.Marks.{put_nothing, fit_first, fit_then, put_then}

-- ---- inside a stretch

module _ (p : Pass) (i : ℕ) (s : Spot) (h : i < s.end) where
  pub put_in : (o : Outputs) → MarksPut (marks_at (by p) (along p) i s.end) o o
  put_in o = put_nothing (marks_at (by p) (along p) i s.end) o (marks_in (by p) (along p) i s.end h)

  pub moved_in : (s' : Spot) → s'.end ≡ s.end → s'.taken ≡ s.taken → Moved p i s.end s s'
  moved_in s' e m = record {
    ends = e ∙ end_in_lem (by p) (along p) i s.end h;
    many = omega (arith, m, ap length (takes_in (by p) (along p) i s.end h));
  }

-- ---- the word at a free position

-- where the right set holds no focus start nothing is taken, not even an empty stretch
takes_nothing : (p : Pass) (i R : ℕ) → i ≤ length (along p) → R ≡ right_set p.walk.sets.now (get_or p.walk.scratch.now i 0)
    → bit_and R (get_or p.walk.outline.masks.now all_starts 0) ≡ 0 → TakenHere (by p) (along p) i i no_rule
takes_nothing p i R h e z =
    let b : Book = book_of p.walk.outline.states.book.now in
    let seen = p.walk.right_sets in
    let tests = p.walk.outlined.tests in
    let L = left_at b (along p) i in
    let masks = p.walk.outline.masks.now in
    let none = miss_all b p.walk.rules masks tests 0 R (and_zero_l (get_or masks all_accepts 0)) in
    walk_dead _ _ _ _ seen i i 0 i no_rule
    (walk_start _ _ _ _ seen i L R 0 no_rule h refl e (none_first b p.walk.rules masks tests L R z) none) refl

module _ (p : Pass) (i stop rule : ℕ) (took : TakenHere (by p) (along p) i stop rule) where
  few : length (by p).words ≤ no_rule
  few = (sound _ p.walk.outline.states.accepted).rules

  ends : stop ≡ end_next (by p) (along p) i i
  ends = took.far ∙ end_new (by p) (along p) i i (omega arith)

  -- nothing is taken
  module _ (k : rule ≡ no_rule) where
    no_one : some_rule (by p) (along p) i (longest (by p) (along p) i) ≡ false
    no_one = took_none (by p) (along p) few i stop rule took k

    put_none : (o : Outputs) → MarksPut (word_here (by p) (along p) i) o o
    put_none o = put_nothing (word_here (by p) (along p) i) o (word_none (by p) (along p) i no_one)

    moved_none : (s s' : Spot) → s'.end ≡ stop → s'.taken ≡ s.taken → Moved p i i s s'
    moved_none s s' e m = record {
      ends = e ∙ ends;
      many = omega (arith, m, ap length (takes_none (by p) (along p) i i (omega arith) no_one));
    }

  -- a stretch is taken, empty or not
  module _ (k : rule ≢ no_rule) where
    is : (some_rule (by p) (along p) i (longest (by p) (along p) i) ≡ true) × (rule ≡ rule_of (by p) (along p) i (longest (by p) (along p) i))
    is = took_some (by p) (along p) few i stop rule took k

    -- it is one of the tape
    stretch_fits : i ≤ length (along p) → (i ≤ stop) × (stop ≤ length (along p))
    stretch_fits h =
        let f = took.far in
        let l = longest_low (by p) (along p) i in
        let m = longest_high (by p) (along p) i h in
        (omega arith, omega arith)

    known_rule : rule < length (by p).words
    known_rule =
        let n = length (by p).words in
        let low = first_below (candidate (by p) (along p) i (longest (by p) (along p) i)) 0 n 0 n (omega arith) (some_rule_lem _ p.walk.outline.states.accepted) in
        omega (arith, is.1, low)

    word_is : word_here (by p) (along p) i ≡ word_marks (rule_word (by p) rule) i stop
    word_is =
        word_some (by p) (along p) i is.0
        ∙ (λ z. word_marks (rule_word (by p) (sym is.1 z)) i (sym took.far z))

    moved_one : (s s' : Spot) → s'.end ≡ stop → s'.taken ≡ s.taken + 1 → Moved p i i s s'
    moved_one s s' e m = record {
      ends = e ∙ ends;
      many = omega (arith, m, takes_one (by p) (along p) i i (omega arith) is.0);
    }

-- as the walk answers it
module _ (p : Pass) (i : ℕ) (x : Option Taken) (took : TakenHere (by p) (along p) i (end_of i x) (rule_in x)) where
  -- nothing
  module _ (h : (t : Taken) → x ≡ Some t → ⊥) where
    none : (y : Option Taken) → x ≡ y → rule_in y ≡ no_rule × end_of i y ≡ i
    none (Some t) e = absurd (h t e)
    none None e = (refl, refl)

    pub none_put : (o : Outputs) → MarksPut (word_here (by p) (along p) i) o o
    none_put = put_none p i (end_of i x) (rule_in x) took (none x refl).0

    pub none_moved : (s s' : Spot) → s'.end ≡ i → s'.taken ≡ s.taken → Moved p i i s s'
    none_moved s s' e = moved_none p i (end_of i x) (rule_in x) took (none x refl).0 s s' (e ∙ sym (none x refl).1)

  -- a stretch and its rule
  module _ (low : IfSome x (λ t. t.rule < most_rules)) (t : Taken) (e : x ≡ Some t) where
    here : TakenHere (by p) (along p) i t.end t.rule
    here = rw e at took

    rule : t.rule ≢ no_rule
    rule q = let r : t.rule < most_rules = rw e at low in omega arith

    pub some_known : t.rule < length (by p).words
    some_known = known_rule p i t.end t.rule here rule

    pub some_fits : i ≤ length (along p) → (i ≤ t.end) × (t.end ≤ length (along p))
    some_fits = stretch_fits p i t.end t.rule here rule

    pub some_word : word_here (by p) (along p) i ≡ word_marks (rule_word (by p) t.rule) i t.end
    some_word = word_is p i t.end t.rule here rule

    pub some_moved : (s s' : Spot) → s'.end ≡ t.end → s'.taken ≡ s.taken + 1 → Moved p i i s s'
    some_moved = moved_one p i t.end t.rule here rule

-- ---- and then the symbol

module _ (p : Pass) (i : ℕ) (s : Spot) (free : s.end ≤ i) where
  -- whatever ended before, the counts are those of the free position
  pub moved_free : (s₁ s' : Spot) → Moved p i i s s₁ → s'.end ≡ s₁.end → s'.taken ≡ s₁.taken → Moved p i s.end s s'
  moved_free s₁ s' m e q = record {
    ends = e ∙ m.ends ∙ sym (end_new (by p) (along p) i i (omega arith)) ∙ end_new (by p) (along p) i s.end free;
    many = omega (arith, q, m.many, ap length (takes_free (by p) (along p) i s.end free));
  }

  module _ (o : Outputs) (room : MarksFit (marks_at (by p) (along p) i s.end) o) where
    abbrev kept : List Mark
    kept = kept_at (along p) i (longest (by p) (along p) i)

    both_fit : MarksFit (word_here (by p) (along p) i ++ kept) o
    both_fit = rw (marks_free (by p) (along p) i s.end free) at room

    pub fit_word : MarksFit (word_here (by p) (along p) i) o
    fit_word = fit_first (word_here (by p) (along p) i) kept o both_fit

    -- the word is written, of a stretch that ends at s₁.end
    module _ (o₁ : Outputs) (word : MarksPut (word_here (by p) (along p) i) o o₁) (s₁ : Spot) (m : Moved p i i s s₁) where
      far : longest (by p) (along p) i ≡ s₁.end
      far = end_new (by p) (along p) i i (omega arith) ∙ sym m.ends

      after_word : (o₂ : Outputs) → MarksPut kept o₁ o₂ → MarksPut (marks_at (by p) (along p) i s.end) o o₂
      after_word o₂ q = rw (marks_free (by p) (along p) i s.end free) (put_then (word_here (by p) (along p) i) kept o both_fit o₁ word o₂ q)

      -- the stretch covers the symbol
      pub put_covered : i < s₁.end → MarksPut (marks_at (by p) (along p) i s.end) o o₁
      put_covered h = after_word o₁ (put_nothing kept o₁ (kept_in (along p) i (longest (by p) (along p) i) (omega (arith, far))))

      -- it does not
      module _ (inside : i < length (along p)) (h : s₁.end ≤ i) where
        one : kept ≡ marks (get_or (along p) i 0 ∷ []) i
        one = kept_free (along p) i (longest (by p) (along p) i) inside (omega (arith, far))

        pub kept_fits : (o₁.at < length o₁.out.now) × (o₁.at < length o₁.origins.now)
        kept_fits =
            let f = fit_then (word_here (by p) (along p) i) kept o both_fit o₁ word in
            (omega (arith, f.outs, ap length one), omega (arith, f.orgs, ap length one))

        pub put_kept : (o₂ : Outputs) → MarksPut (marks (get_or (along p) i 0 ∷ []) i) o₁ o₂ → MarksPut (marks_at (by p) (along p) i s.end) o o₂
        put_kept o₂ q = after_word o₂ (rw one q)

  -- where no focus starts there is the symbol alone
  module _ (inside : i < length (along p)) (R : ℕ) (e : R ≡ right_set p.walk.sets.now (get_or p.walk.scratch.now i 0))
      (z : bit_and R (get_or p.walk.outline.masks.now all_starts 0) ≡ 0) where
    nothing : TakenHere (by p) (along p) i i no_rule
    nothing = takes_nothing p i R (omega arith) e z

    stays : (s' : Spot) → s'.end ≡ i → s'.taken ≡ s.taken → Moved p i i s s'
    stays = moved_none p i i no_rule nothing refl s

    pub bare_moved : (s' : Spot) → s'.end ≡ i → s'.taken ≡ s.taken → Moved p i s.end s s'
    bare_moved s' f m = moved_free s' s' (stays s' f m) refl refl

    module _ (o : Outputs) (room : MarksFit (marks_at (by p) (along p) i s.end) o) where
      bare : Moved p i i s (record s { end = i })
      bare = stays (record s { end = i }) refl refl

      pub bare_fits : (o.at < length o.out.now) × (o.at < length o.origins.now)
      bare_fits = kept_fits o room o (put_none p i i no_rule nothing refl o) (record s { end = i }) bare inside (omega arith)

      pub bare_put : (o' : Outputs) → MarksPut (marks (get_or (along p) i 0 ∷ []) i) o o' → MarksPut (marks_at (by p) (along p) i s.end) o o'
      bare_put = put_kept o room o (put_none p i i no_rule nothing refl o) (record s { end = i }) bare inside (omega arith)
