-- The symbols and the origins of the output, stretch by stretch; and each output symbol with its origin is kept or of a replacement. Assumes
-- nothing.
use Prim.Native.Nat.{ℕ, zero, suc, ◌+◌, ◌-◌, ◌≤◌}
use mathlib.Core.List.Memᴰ
use mathlib.Core.List.{List, [], ◌∷◌, ◌++◌, Memᴰ}
use mathlib.Core.Bool.{Bool, true, false, cond}
use mathlib.Core.Path.{◌≡◌, refl, sym, subst, ap, ap₂, ◌∙◌}
use mathlib.Core.Logic.{◌⊎◌, inl, inr, ⊎_elim}
use native.Mathlib.Omega.{arith}
use lib.ListN.{length, get_or, drop}
use lib.Seq.{slice, slice-cons, slice_empty, take-length}
use Rattle.book.specs.Language.{Rules, up_from}
use Rattle.stretches.specs.Candidates.{Stretch, rule_of, taken}
use Rattle.stretches.specs.Output.{Mark, kept_marks, word_marks, rule_word, written, rewriting, symbols_of, origins_of}
use Rattle.stretches.specs.Account.{Line, account}
use Rattle.stretches.specs.Sentences.{taken_lines, Chain, kept_from, replace, covered, kept_symbols, written_words}
use Rattle.stretches.specs.Sentences.{Shuffled, none, left, right, symbols_from, origins_from, Traced, kept, replaced}
use Rattle.stretches.proofs.Lists.{each_out}
use Rattle.stretches.proofs.Stretches.{each_walked, taken_walked}
use Rattle.stretches.proofs.WordMarks.{origins_append, symbols_append, marks_origins, marks_symbols, marks_out}
use Rattle.stretches.proofs.Replaced.{rewriting_account}
use Rattle.stretches.proofs.Lengths.{taken_chain}
use Rattle.stretches.proofs.Kept.{rewriting_shuffled}

origins_kept : (t : List ℕ) (a n : ℕ) → origins_of (kept_from t a n) ≡ up_from a n
origins_kept t a zero = refl
origins_kept t a (suc n) = ap (λ (l : List ℕ). a ∷ l) (origins_kept t (suc a) n)

symbols_kept : (t : List ℕ) (a n e : ℕ) → a + n ≡ e → e ≤ length t → symbols_of (kept_from t a n) ≡ slice a e t
symbols_kept t a zero e h g = let q : a ≡ e = omega arith in sym (ap (λ (x : ℕ). slice x e t) q ∙ slice_empty e t)
symbols_kept t a (suc n) e h g =
    ap (λ (l : List ℕ). get_or t a 0 ∷ l) (symbols_kept t (suc a) n e (omega arith) g) ∙ sym (slice-cons a e t 0 (omega arith) g)

replace_origins : (b : Rules) (t : List ℕ) (a : ℕ) (ls : List Line) → origins_of (replace b t a ls) ≡ origins_from b t a ls
replace_origins b t a [] = origins_kept t a (length t - a)
replace_origins b t a (l ∷ ls) =
    let w = word_marks (rule_word b l.rule) l.start l.end in
    origins_append (kept_from t a (l.start - a)) (w ++ replace b t l.end ls)
    ∙ ap₂ (λ (x y : List ℕ). x ++ y) (origins_kept t a (l.start - a))
    (origins_append w (replace b t l.end ls)
    ∙ ap₂ (λ (x y : List ℕ). x ++ y) (marks_origins (rule_word b l.rule) l.start l.end) (replace_origins b t l.end ls))

replace_symbols : (b : Rules) (t : List ℕ) (a : ℕ) (ls : List Line) → a ≤ length t → Chain t a ls
    → symbols_of (replace b t a ls) ≡ symbols_from b t a ls
replace_symbols b t a [] h c =
    symbols_kept t a (length t - a) (length t) (omega arith) (omega arith) ∙ ap (drop a) (take-length t)
replace_symbols b t a (l ∷ ls) h c =
    let w = word_marks (rule_word b l.rule) l.start l.end in
    let p = c.0 in
    let q = c.1 in
    let r = c.2 in
    symbols_append (kept_from t a (l.start - a)) (w ++ replace b t l.end ls)
    ∙ ap₂ (λ (x y : List ℕ). x ++ y) (symbols_kept t a (l.start - a) l.start (omega arith) (omega arith))
    (symbols_append w (replace b t l.end ls)
    ∙ ap₂ (λ (x y : List ℕ). x ++ y) (marks_symbols (rule_word b l.rule) l.start l.end) (replace_symbols b t l.end ls r c.3))

shuffled_out : {xs ys zs : List Mark} → Shuffled xs ys zs → (m : Mark) → Memᴰ m zs → Memᴰ m xs ⊎ Memᴰ m ys
shuffled_out none m z = elim z [ ]
shuffled_out (left p) m (Memᴰ.head e) = inl (Memᴰ.head e)
shuffled_out (left p) m (Memᴰ.tail z) = ⊎_elim (λ u. inl (Memᴰ.tail u)) (λ u. inr u) (shuffled_out p m z)
shuffled_out (right p) m (Memᴰ.head e) = inr (Memᴰ.head e)
shuffled_out (right p) m (Memᴰ.tail z) = ⊎_elim (λ u. inl u) (λ u. inr (Memᴰ.tail u)) (shuffled_out p m z)

-- a symbol that is kept at i unless it is covered
kept_out : (c : Bool) (x i : ℕ) (m : Mark) → Memᴰ m (cond c [] (kept_marks (x ∷ []) i)) → (c ≡ false) × (m ≡ record { symbol = x; origin = i })
kept_out true x i m z = elim z [ ]
kept_out false x i m z = (refl, Memᴰ.eq_of_singleton z)

module _ (b : Rules) (t : List ℕ) where
  pub rewriting_symbols : symbols_of (rewriting b t) ≡ symbols_from b t 0 (taken_lines (account b t))
  rewriting_symbols =
      ap symbols_of (rewriting_account b t) ∙ replace_symbols b t 0 (taken_lines (account b t)) (omega arith) (taken_chain b t)

  pub rewriting_origins : origins_of (rewriting b t) ≡ origins_from b t 0 (taken_lines (account b t))
  rewriting_origins = ap origins_of (rewriting_account b t) ∙ replace_origins b t 0 (taken_lines (account b t))

  kept_traced : (m : Mark) → Memᴰ m (kept_symbols b t) → Traced b t m
  kept_traced m z =
      let u = each_out (λ (i : ℕ). cond (covered (taken b t) i) [] (kept_marks (get_or t i 0 ∷ []) i)) m 0 (length t) z in
      let i = u.0 in
      let h = u.2 in
      let v = kept_out (covered (taken b t) i) (get_or t i 0) i m u.3 in
      subst (Traced b t) (sym v.1) (kept (omega arith) v.0 refl)

  word_of : (ds : List Stretch) (m : Mark) → Memᴰ m (written_words b t ds)
      → (d : Stretch) × Memᴰ d ds × Memᴰ m (written b t d.start d.end)
  word_of [] m z = elim z [ ]
  word_of (d ∷ ds) m z =
      ⊎_elim (λ u. (d, Memᴰ.head refl, u))
      (λ u. let v = word_of ds m u in (v.0, Memᴰ.tail v.1, v.2))
      (Memᴰ.append_cases (written b t d.start d.end) z)

  word_traced : (m : Mark) → Memᴰ m (written_words b t (taken b t)) → Traced b t m
  word_traced m z =
      let u = word_of (taken b t) m z in
      let d = u.0 in
      let v = marks_out (rule_word b (rule_of b t d.start d.end)) d.start d.end m u.2 in
      replaced d.start d.end v.0 ((taken_walked b t d.start d.end).1 (each_walked b t d u.1)) v.1

  pub rewriting_traced : (m : Mark) → Memᴰ m (rewriting b t) → Traced b t m
  rewriting_traced m z = ⊎_elim (kept_traced m) (word_traced m) (shuffled_out (rewriting_shuffled b t) m z)
