-- The taken stretches follow one another; the output's length. Assumes nothing.
use Prim.Native.Nat.{ℕ, zero, suc, ◌+◌, ◌-◌, ◌≤◌, ◌<◌}
use mathlib.Core.List.{List, [], ◌∷◌, ◌++◌, map}
use mathlib.Core.Path.{◌≡◌, refl, subst, sym, ap, ◌∙◌}
use mathlib.Core.Logic.{by_cases}
use native.Mathlib.Omega.{arith}
use native.Mathlib.Decide.{dec_lt}
use lib.ListN.{length, length-append}
use Rattle.book.specs.Language.{Rules}
use Rattle.stretches.specs.Candidates.{Stretch}
use Rattle.stretches.specs.Output.{word_marks, rule_word, rewriting}
use Rattle.stretches.specs.Account.{Line, each, account}
use Rattle.stretches.specs.Sentences.{taken_lines, line_of, kept_from, replace, Chain, removed, writes}
use Rattle.stretches.proofs.Walks.{Walked, Place, inside, begins, alone, place}
use Rattle.stretches.proofs.Stretches.{tk, tk_inside, tk_begins, tk_alone, taken_list}
use Rattle.stretches.proofs.Accounts.{account_taken}
use Rattle.stretches.proofs.WordMarks.{marks_length}
use Rattle.stretches.proofs.Replaced.{skip, ds, Edge, edge_alone, edge_empty, edge_end, over_of, rewriting_account}

chain_down : (t : List ℕ) (i : ℕ) (ls : List Line) → Chain t (suc i) ls → Chain t i ls
chain_down t i [] h = tt
chain_down t i (l ∷ ls) h = let a = h.0 in (omega arith, h.1, h.2, h.3)

module _ (b : Rules) (t : List ℕ) where
  abbrev Linked : ℕ → ℕ → Type 0
  Linked i k = Chain t i (ds b t i k)

  step : (i k : ℕ) → i + k ≡ suc (length t) → Edge b t i → ((x y : ℕ) → y < k → x + y ≡ suc (length t) → Edge b t x → Linked x y) → Linked i k
  step i zero h edge ih = tt
  step i (suc k) h edge ih = go (place b t i (omega arith))
    where
      tail : List Stretch → Type 0
      tail x = Chain t i (map (line_of b t) (x ++ each (tk b t) (suc i) k))

      go : Place b t i → Linked i (suc k)
      go (inside s e w p q o) = absurd (edge s e w p q)
      go (alone m o) =
          subst tail (sym (tk_alone b t i o)) (chain_down t i (ds b t (suc i) k) (ih (suc i) k (omega arith) (omega arith) (edge_alone b t i m edge)))
      go (begins e w o) = subst tail (sym (tk_begins b t i e o)) (omega arith, w.some.cand.ordered, w.some.cand.inside, by_cases (dec_lt i e) longer empty)
        where
          longer : i < e → Chain t e (ds b t (suc i) k)
          longer p =
              let q = w.some.cand.inside in
              subst (λ (x : List Stretch). Chain t e (map (line_of b t) x))
              (sym (skip (tk b t) i k e p (omega arith) (λ x u v. tk_inside b t x i e u (over_of b t i e w x u v))))
              (ih e (suc i + k - e) (omega arith) (omega arith) (edge_end b t i e p w))

          empty : (i < e → ⊥) → Chain t e (ds b t (suc i) k)
          empty n =
              let l = w.some.cand.ordered in
              let q : i ≡ e = omega arith in
              subst (λ (x : ℕ). Chain t x (ds b t (suc i) k)) q
              (chain_down t i (ds b t (suc i) k) (ih (suc i) k (omega arith) (omega arith) (edge_empty b t i (subst (Walked b t i) (sym q) w))))

  linked : (m i k : ℕ) → k ≤ m → i + k ≡ suc (length t) → Edge b t i → Linked i k
  linked zero i k g h edge = step i k h edge (λ x y z. absurd (omega arith))
  linked (suc m) i k g h edge = step i k h edge (λ x y z w u. linked m x y (omega arith) w u)

  pub taken_chain : Chain t 0 (taken_lines (account b t))
  taken_chain =
      subst (Chain t 0) (sym (account_taken b t ∙ ap (map (line_of b t)) (taken_list b t)))
      (linked (suc (length t)) 0 (suc (length t)) (omega arith) (omega arith) (λ s e w h k. omega arith))

kept_length : (t : List ℕ) (a n : ℕ) → length (kept_from t a n) ≡ n
kept_length t a zero = refl
kept_length t a (suc n) = ap suc (kept_length t (suc a) n)

replace_length : (b : Rules) (t : List ℕ) (a : ℕ) (ls : List Line) → Chain t a ls → length (replace b t a ls) + removed ls ≡ (length t - a) + writes b ls
replace_length b t a [] h = let e = kept_length t a (length t - a) in omega arith
replace_length b t a (l ∷ ls) h =
    let p = h.0 in
    let q = h.1 in
    let r = h.2 in
    let ih = replace_length b t l.end ls h.3 in
    let W = word_marks (rule_word b l.rule) l.start l.end in
    let u = length-append (kept_from t a (l.start - a)) (W ++ replace b t l.end ls) in
    let v = length-append W (replace b t l.end ls) in
    let k = kept_length t a (l.start - a) in
    let m = marks_length (rule_word b l.rule) l.start l.end in
    omega arith

-- the output's length, from the lines with verdict 0
pub rewriting_length : (b : Rules) (t : List ℕ) → length (rewriting b t) + removed (taken_lines (account b t)) ≡ length t + writes b (taken_lines (account b t))
rewriting_length b t =
    let e = ap length (rewriting_account b t) in
    let f = replace_length b t 0 (taken_lines (account b t)) (taken_chain b t) in
    omega arith
