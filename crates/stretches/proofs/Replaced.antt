-- The output replaces each taken stretch by its rule's word and keeps the rest; an empty stretch puts its word in. Assumes nothing.
use Prim.Native.Nat.{ℕ, zero, suc, ◌+◌, ◌-◌, ◌≤◌, ◌<◌}
use mathlib.Core.List.{List, [], ◌∷◌, ◌++◌, map, append-nil, append_assoc}
use mathlib.Core.Bool.{false}
use mathlib.Core.Path.{◌≡◌, subst, sym, ap, ◌∙◌}
use mathlib.Core.Logic.{by_cases}
use native.Mathlib.Omega.{arith}
use native.Mathlib.Decide.{ℕ_discrete, dec_lt}
use lib.ListN.{length, get_or}
use Rattle.book.specs.Language.{Rules}
use Rattle.stretches.specs.Candidates.{Stretch, taken}
use Rattle.stretches.specs.Output.{Mark, kept_marks, word_marks, rule_word, written, written_at, rewriting}
use Rattle.stretches.specs.Account.{Line, each, account}
use Rattle.stretches.specs.Sentences.{taken_lines, line_of, kept_from, replace}
use borrow.Author.Tests.{lt-ltb, le-ltb}
use Rattle.stretches.proofs.Lists.{each_none, each_split}
use Rattle.stretches.proofs.Walks.{over, over_mid, tape_over, symbol_at, symbol_at_lem, symbol_end, Walked, walked_over, Some, Place, inside}
use Rattle.stretches.proofs.Walks.{begins, alone, place}
use Rattle.stretches.proofs.Stretches.{stretch, tk, tk_inside, tk_begins, tk_alone, taken_list}
use Rattle.stretches.proofs.Rewritings.{said, walked_one, walked_apart}
use Rattle.stretches.proofs.Accounts.{account_taken}

-- the first line starts at i or later
abbrev pub Low : ℕ → List Line → Type 0
Low i [] = Unit {0}
Low i (l ∷ ls) = i ≤ l.start

pub low_down : (i : ℕ) (ls : List Line) → Low (suc i) ls → Low i ls
low_down i [] h = tt
low_down i (l ∷ ls) h = omega arith

pub kept_one : (t : List ℕ) (a n : ℕ) → a < n → kept_from t a (n - a) ≡ kept_marks (get_or t a 0 ∷ []) a ++ kept_from t (suc a) (n - suc a)
kept_one t a n h = let e : n - a ≡ suc (n - suc a) = omega arith in ap (kept_from t a) e

pub replace_keep : (b : Rules) (t : List ℕ) (i : ℕ) (ls : List Line) → i < length t → Low (suc i) ls
    → replace b t i ls ≡ kept_marks (get_or t i 0 ∷ []) i ++ replace b t (suc i) ls
replace_keep b t i [] h k = kept_one t i (length t) h
replace_keep b t i (l ∷ ls) h k =
    ap (λ (x : List Mark). x ++ (word_marks (rule_word b l.rule) l.start l.end ++ replace b t l.end ls)) (kept_one t i l.start k)

-- nothing is said inside a taken stretch
pub skip {ℓ} : {A : Type ℓ} (f : ℕ → List A) (i k e : ℕ) → i < e → e ≤ suc i + k → ((x : ℕ) → i < x → x < e → f x ≡ [])
    → each f (suc i) k ≡ each f e (suc i + k - e)
skip f i k e h g n =
    let m = e - suc i in
    let p : k ≡ m + (suc i + k - e) = omega arith in
    let q : suc i + m ≡ e = omega arith in
    ap (each f (suc i)) p ∙ each_split f (suc i) m (suc i + k - e)
    ∙ ap (λ x. x ++ each f (suc i + m) (suc i + k - e)) (each_none f (suc i) m (λ x y z. n x (omega arith) (omega arith)))
    ∙ ap (λ (y : ℕ). each f y (suc i + k - e)) q

module _ (b : Rules) (t : List ℕ) where
  pub said_inside : (i s e : ℕ) → s < i → over b t i ≡ stretch s e → said b t i ≡ []
  said_inside i s e h o = ap (written_at b t i (symbol_at b t i)) o ∙ rw (lt-ltb s i h)

  pub said_alone : (i : ℕ) → over b t i ≡ record { start = i; end = i; taken = false } → said b t i ≡ kept_marks (symbol_at b t i) i
  said_alone i o = ap (written_at b t i (symbol_at b t i)) o ∙ rw (le-ltb i i (omega arith))

  pub said_empty : (i : ℕ) → over b t i ≡ stretch i i → said b t i ≡ written b t i i ++ kept_marks (symbol_at b t i) i
  said_empty i o = ap (written_at b t i (symbol_at b t i)) o ∙ rw (le-ltb i i (omega arith))

  pub said_begins : (i e : ℕ) → i < e → over b t i ≡ stretch i e → said b t i ≡ written b t i e
  said_begins i e h o = ap (written_at b t i (symbol_at b t i)) o ∙ rw (le-ltb i i (omega arith), lt-ltb i e h) (append-nil (written b t i e))

  abbrev pub ds : ℕ → ℕ → List Line
  ds i k = map (line_of b t) (each (tk b t) i k)

  -- no taken stretch has i strictly inside
  abbrev pub Edge : ℕ → Type 0
  Edge i = (s e : ℕ) → Walked b t s e → s < i → i < e → ⊥

  ds_low : (k i : ℕ) → i + k ≡ suc (length t) → Low i (ds i k)
  ds_low zero i n = tt
  ds_low (suc k) i n = go (place b t i (omega arith)) (ds_low k (suc i) (omega arith))
    where
      with_nil : tk b t i ≡ [] → Low (suc i) (ds (suc i) k) → Low i (ds i (suc k))
      with_nil e h = subst (λ (x : List Stretch). Low i (map (line_of b t) (x ++ each (tk b t) (suc i) k))) (sym e) (low_down i (ds (suc i) k) h)

      go : Place b t i → Low (suc i) (ds (suc i) k) → Low i (ds i (suc k))
      go (inside s e w h g o) l = with_nil (tk_inside b t i s e h o) l
      go (begins e w o) l = subst (λ (x : List Stretch). Low i (map (line_of b t) (x ++ each (tk b t) (suc i) k))) (sym (tk_begins b t i e o)) (omega arith)
      go (alone m o) l = with_nil (tk_alone b t i o) l

  pub edge_alone : (i : ℕ) → ((j : ℕ) → Some b t i j → ⊥) → Edge i → Edge (suc i)
  edge_alone i m h s e w p q = by_cases (ℕ_discrete s i) (λ g. m e (subst (λ (x : ℕ). Walked b t x e) g w).some) (λ g. h s e w (omega arith) (omega arith))

  pub edge_empty : (i : ℕ) → Walked b t i i → Edge (suc i)
  edge_empty i v s e w p q =
      by_cases (ℕ_discrete s i) (λ g. let x = walked_one b t (subst (λ (z : ℕ). Walked b t z e) g w) v in omega arith)
      (λ g. walked_apart b t w (omega arith) (omega arith) v)

  pub edge_end : (i e : ℕ) → i < e → Walked b t i e → Edge e
  edge_end i e k w s f v p q = by_cases (ℕ_discrete s i)
      (λ g. let x = walked_one b t (subst (λ (z : ℕ). Walked b t z f) g v) w in omega arith)
      (λ g. by_cases (dec_lt s i) (λ h. walked_apart b t v h (omega arith) w) (λ h. walked_apart b t w (omega arith) p v))

  pub over_of : (i e : ℕ) → Walked b t i e → (x : ℕ) → i < x → x < e → over b t x ≡ stretch i e
  over_of i e w x h k = let f = w.far in over_mid b t i x w.free (omega arith) (omega arith) ∙ walked_over b t w

  -- a position that nothing covers is kept
  keep_on : (i k : ℕ) → i + suc k ≡ suc (length t) → replace b t i (ds (suc i) k) ≡ kept_marks (symbol_at b t i) i ++ replace b t (suc i) (ds (suc i) k)
  keep_on i zero h =
      let e : length t - i ≡ 0 = omega arith in
      let f : length t - suc i ≡ 0 = omega arith in
      ap (kept_from t i) e ∙ sym (ap (λ (x : ℕ). kept_from t (suc i) x) f)
      ∙ sym (ap (λ (x : List ℕ). kept_marks x i ++ kept_from t (suc i) (length t - suc i)) (symbol_end b t i (omega arith)))
  keep_on i (suc k) h =
      let g : i < length t = omega arith in
      replace_keep b t i (ds (suc i) (suc k)) g (ds_low (suc k) (suc i) (omega arith))
      ∙ sym (ap (λ (x : List ℕ). kept_marks x i ++ replace b t (suc i) (ds (suc i) (suc k))) (symbol_at_lem b t i g))

  abbrev Rest : ℕ → ℕ → Type 0
  Rest i k = each (said b t) i k ≡ replace b t i (ds i k)

  step : (i k : ℕ) → i + k ≡ suc (length t) → Edge i → ((x y : ℕ) → y < k → x + y ≡ suc (length t) → Edge x → Rest x y) → Rest i k
  step i zero h edge ih = let e : length t - i ≡ 0 = omega arith in ap (kept_from t i) (sym e)
  step i (suc k) h edge ih = go (place b t i (omega arith))
    where
      tail : List Stretch → List Mark
      tail x = replace b t i (map (line_of b t) (x ++ each (tk b t) (suc i) k))

      go : Place b t i → Rest i (suc k)
      go (inside s e w p q o) = absurd (edge s e w p q)
      go (alone m o) =
          ap (λ x. x ++ each (said b t) (suc i) k) (said_alone i o)
          ∙ ap (λ x. kept_marks (symbol_at b t i) i ++ x) (ih (suc i) k (omega arith) (omega arith) (edge_alone i m edge))
          ∙ sym (keep_on i k h)
          ∙ sym (ap tail (tk_alone b t i o))
      go (begins e w o) = by_cases (dec_lt i e) longer empty
        where
          z : i - i ≡ 0
          z = omega arith

          longer : i < e → Rest i (suc k)
          longer p =
              let q = w.some.cand.inside in
              ap (λ x. x ++ each (said b t) (suc i) k) (said_begins i e p o)
              ∙ ap (λ x. written b t i e ++ x) (skip (said b t) i k e p (omega arith) (λ x u v. said_inside x i e u (over_of i e w x u v))
              ∙ ih e (suc i + k - e) (omega arith) (omega arith) (edge_end i e p w)
              ∙ ap (λ (x : List Stretch). replace b t e (map (line_of b t) x))
              (sym (skip (tk b t) i k e p (omega arith) (λ x u v. tk_inside b t x i e u (over_of i e w x u v)))))
              ∙ ap (λ (x : ℕ). kept_from t i x ++ (written b t i e ++ replace b t e (ds (suc i) k))) (sym z)
              ∙ sym (ap tail (tk_begins b t i e o))

          empty : (i < e → ⊥) → Rest i (suc k)
          empty n =
              let l = w.some.cand.ordered in
              let q : e ≡ i = omega arith in
              let v = subst (Walked b t i) q w in
              let u = o ∙ ap (stretch i) q in
              ap (λ x. x ++ each (said b t) (suc i) k) (said_empty i u)
              ∙ append_assoc (written b t i i) (kept_marks (symbol_at b t i) i) (each (said b t) (suc i) k)
              ∙ ap (λ x. written b t i i ++ x) (ap (λ x. kept_marks (symbol_at b t i) i ++ x) (ih (suc i) k (omega arith) (omega arith) (edge_empty i v))
              ∙ sym (keep_on i k h))
              ∙ ap (λ (x : ℕ). kept_from t i x ++ (written b t i i ++ replace b t i (ds (suc i) k))) (sym z)
              ∙ sym (ap tail (tk_begins b t i i u))

  rest : (m i k : ℕ) → k ≤ m → i + k ≡ suc (length t) → Edge i → Rest i k
  rest zero i k g h edge = step i k h edge (λ x y z. absurd (omega arith))
  rest (suc m) i k g h edge = step i k h edge (λ x y z w u. rest m x y (omega arith) w u)

  pub rewriting_said : rewriting b t ≡ each (said b t) 0 (suc (length t))
  unfolding rewriting
  rewriting_said = tape_over b t (written_at b t)

  pub rewriting_replace : rewriting b t ≡ replace b t 0 (map (line_of b t) (taken b t))
  rewriting_replace = rewriting_said ∙ rest (suc (length t)) 0 (suc (length t)) (omega arith) (omega arith) (λ s e w h k. omega arith)
      ∙ ap (λ (x : List Stretch). replace b t 0 (map (line_of b t) x)) (sym (taken_list b t))

  pub rewriting_account : rewriting b t ≡ replace b t 0 (taken_lines (account b t))
  rewriting_account = rewriting_replace ∙ ap (replace b t 0) (sym (account_taken b t))
