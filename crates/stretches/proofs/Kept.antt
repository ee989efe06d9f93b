-- The output is the kept symbols, each with its own position as origin, and the words of the taken stretches, both in their order: position by
-- position, then put together. Assumes nothing.
use Prim.Native.Nat.{ℕ, zero, suc, ◌+◌, ◌≤◌, ◌<◌}
use mathlib.Core.List.{List, [], ◌∷◌, ◌++◌, append-nil, append_assoc}
use mathlib.Core.Bool.{Bool, true, false, ◌&&◌, cond}
use mathlib.Core.Path.{◌≡◌, refl, sym, ap, ◌∙◌}
use mathlib.Core.Logic.{by_cases}
use native.Mathlib.Omega.{arith}
use native.Mathlib.Decide.{dec_lt}
use native.Mathlib.Nat.{zero-add}
use lib.Dec.{T, leb, ltb, leb→le, le→leb, ltb→lt, lt→ltb}
use lib.ListN.{length, get_or}
use Rattle.book.specs.Language.{Rules}
use Rattle.book.proofs.Tests.{same_test, and_both, and_left, and_right, any_in, any_out}
use Rattle.stretches.specs.Candidates.{Stretch, taken}
use Rattle.stretches.specs.Output.{Mark, kept_marks, written, rewriting}
use Rattle.stretches.specs.Account.{each}
use Rattle.stretches.specs.Sentences.{Takes, covered, kept_symbols, written_words, Shuffled, none, left, right}
use Rattle.stretches.proofs.Lists.{hit, miss, each_snoc, each_same}
use Rattle.stretches.proofs.Walks.{symbol_at, symbol_at_lem, symbol_end, Walked, Place, inside, begins, alone, place}
use Rattle.stretches.proofs.Stretches.{stretch, tk, tk_inside, tk_begins, tk_alone, taken_list, each_walked, taken_walked}
use Rattle.stretches.proofs.Rewritings.{said, Bare, bare_alone, bare_begins}
use Rattle.stretches.proofs.Replaced.{said_inside, said_alone, said_empty, said_begins, rewriting_said}

shuffled_append : {xs ys zs us vs ws : List Mark} → Shuffled xs ys zs → Shuffled us vs ws → Shuffled (xs ++ us) (ys ++ vs) (zs ++ ws)
shuffled_append none q = q
shuffled_append (left p) q = left (shuffled_append p q)
shuffled_append (right p) q = right (shuffled_append p q)

only_left : (xs : List Mark) → Shuffled xs [] xs
only_left [] = none
only_left (x ∷ xs) = left (only_left xs)

only_right : (ys : List Mark) → Shuffled [] ys ys
only_right [] = none
only_right (y ∷ ys) = right (only_right ys)

shuffled_each : (f g h : ℕ → List Mark) (a n : ℕ) → ((k : ℕ) → a ≤ k → k < a + n → Shuffled (f k) (g k) (h k)) → Shuffled (each f a n) (each g a n) (each h a n)
shuffled_each f g h a zero p = none
shuffled_each f g h a (suc n) p = shuffled_append (p a (omega arith) (omega arith)) (shuffled_each f g h (suc a) n (λ k l m. p k (omega arith) (omega arith)))

same : {xs ys zs us vs ws : List Mark} → xs ≡ us → ys ≡ vs → zs ≡ ws → Shuffled us vs ws → Shuffled xs ys zs
same p q r s = rw (p, q, r) s

module _ (b : Rules) (t : List ℕ) where
  words_append : (xs ys : List Stretch) → written_words b t (xs ++ ys) ≡ written_words b t xs ++ written_words b t ys
  words_append [] ys = refl
  words_append (d ∷ xs) ys =
      ap (λ (x : List Mark). written b t d.start d.end ++ x) (words_append xs ys)
      ∙ sym (append_assoc (written b t d.start d.end) (written_words b t xs) (written_words b t ys))

  words_each : (f : ℕ → List Stretch) (a n : ℕ) → written_words b t (each f a n) ≡ each (λ (k : ℕ). written_words b t (f k)) a n
  words_each f a zero = refl
  words_each f a (suc n) = words_append (f a) (each f (suc a) n) ∙ ap (λ (x : List Mark). written_words b t (f a) ++ x) (words_each f (suc a) n)

  -- a position is covered exactly where a stretch that the walk takes goes over it
  covers : (s e i : ℕ) → Walked b t s e → s ≤ i → i < e → T (covered (taken b t) i)
  covers s e i w h k =
      any_in (λ (d : Stretch). leb d.start i && ltb i d.end) ((taken_walked b t s e).1 w) (and_both (leb s i) (ltb i e) (le→leb s i h) (lt→ltb i e k))

  bare : (i : ℕ) → Bare b t i → T (covered (taken b t) i) → ⊥
  bare i n x =
      let z = any_out (λ (d : Stretch). leb d.start i && ltb i d.end) (taken b t) x in
      let d = z.0 in
      n d.start d.end (each_walked b t d z.1) (leb→le d.start i (and_left (leb d.start i) (ltb i d.end) z.2))
      (ltb→lt i d.end (and_right (leb d.start i) (ltb i d.end) z.2))

  -- where an empty stretch is taken no stretch covers the symbol
  pub taken_empty : (i : ℕ) → Takes b t i i → covered (taken b t) i ≡ false
  taken_empty i m =
      same_test (covered (taken b t) i) false
      (λ x. absurd (bare i (bare_begins b t i i (omega arith) ((taken_walked b t i i).0 m)) x), λ x. absurd x)

  -- what is kept at i; at the tape's end nothing
  abbrev kept_at : ℕ → List Mark
  kept_at i = cond (covered (taken b t) i) [] (kept_marks (symbol_at b t i) i)

  kept_none : (i : ℕ) → T (covered (taken b t) i) → kept_at i ≡ []
  kept_none i x = hit (covered (taken b t) i) [] (kept_marks (symbol_at b t i) i) x

  kept_one : (i : ℕ) → Bare b t i → kept_at i ≡ kept_marks (symbol_at b t i) i
  kept_one i n = miss (covered (taken b t) i) [] (kept_marks (symbol_at b t i) i) (bare i n)

  at : (i : ℕ) → Place b t i → Shuffled (kept_at i) (written_words b t (tk b t i)) (said b t i)
  at i (inside s e w h k o) =
      same (kept_none i (covers s e i w (omega arith) k)) (ap (written_words b t) (tk_inside b t i s e h o)) (said_inside b t i s e h o) none
  at i (alone n o) =
      same (kept_one i (bare_alone b t i n o)) (ap (written_words b t) (tk_alone b t i o)) (said_alone b t i o) (only_left (kept_marks (symbol_at b t i) i))
  at i (begins e w o) = by_cases (dec_lt i e)
      (λ h. same (kept_none i (covers i e i w (omega arith) h)) (ap (written_words b t) (tk_begins b t i e o) ∙ append-nil (written b t i e))
      (said_begins b t i e h o) (only_right (written b t i e)))
      (λ h. let l = w.some.cand.ordered in
      let q : e ≡ i = omega arith in
      let v = o ∙ ap (stretch i) q in
      same (kept_one i (bare_begins b t i e (omega arith) w)) (ap (written_words b t) (tk_begins b t i i v)) (said_empty b t i v)
      (shuffled_append (only_right (written b t i i)) (only_left (kept_marks (symbol_at b t i) i))))

  no_cond : (c : Bool) (xs : List Mark) → xs ≡ [] → cond c [] xs ≡ []
  no_cond true xs e = refl
  no_cond false xs e = e

  kept_all : kept_symbols b t ≡ each kept_at 0 (suc (length t))
  kept_all =
      each_same (λ (i : ℕ). cond (covered (taken b t) i) [] (kept_marks (get_or t i 0 ∷ []) i)) kept_at 0 (length t)
      (λ i h k. ap (λ (x : List ℕ). cond (covered (taken b t) i) [] (kept_marks x i)) (sym (symbol_at_lem b t i (omega arith))))
      ∙ sym (append-nil (each kept_at 0 (length t)))
      ∙ ap (λ (x : List Mark). each kept_at 0 (length t) ++ x)
      (sym (no_cond (covered (taken b t) (length t)) (kept_marks (symbol_at b t (length t)) (length t))
      (ap (λ (x : List ℕ). kept_marks x (length t)) (symbol_end b t (length t) (omega arith)))))
      ∙ ap (λ (n : ℕ). each kept_at 0 (length t) ++ kept_at n) (sym (zero-add (length t)))
      ∙ sym (each_snoc kept_at 0 (length t))

  pub rewriting_shuffled : Shuffled (kept_symbols b t) (written_words b t (taken b t)) (rewriting b t)
  rewriting_shuffled = same kept_all (ap (written_words b t) (taken_list b t) ∙ words_each (tk b t) 0 (suc (length t))) (rewriting_said b t)
      (shuffled_each kept_at (λ (i : ℕ). written_words b t (tk b t i)) (said b t) 0 (suc (length t)) (λ i h k. at i (place b t i (omega arith))))
