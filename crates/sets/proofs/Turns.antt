-- Laws of run: the table after the first j pairs. Assumes nothing.
use Prim.Native.Nat.{ℕ, zero, suc, ◌+◌, ◌-◌, ◌*◌, ◌≤◌, ◌<◌}
use mathlib.Core.Path.{◌≡◌, refl, sym, ap, ◌∙◌, subst}
use mathlib.Core.List.{List, [], ◌∷◌, ◌++◌, append-nil, append_assoc}
use native.Mathlib.Omega.{arith}
use native.Mathlib.Nat.{add-zero, add-suc}
use native.Mathlib.Decide.{dec_lt, ℕ_discrete}
use lib.ListN.{length, length-append}
use borrow.Author.Tests.{lt-ltb, le-ltb, eq-eqb, ne_eqb}
use Rattle.book.specs.Format.{symbol_count}
use Rattle.book.proofs.Idx.{idx_le}
use Rattle.sets.specs.Numbering.{pairs, idx, Table, enter, met, next, turn, run, all}

pub enter_new : (n x : ℕ) (t : Table) → n ≡ length t.sets → enter n x t ≡ record { sets = t.sets ++ (x ∷ []); rows = t.rows ++ (n ∷ []) }
unfolding enter
enter_new n x t e = rw (eq-eqb n (length t.sets) e)

pub enter_old : (n x : ℕ) (t : Table) → (n ≡ length t.sets → ⊥) → enter n x t ≡ record { sets = t.sets; rows = t.rows ++ (n ∷ []) }
unfolding enter
enter_old n x t e = rw (ne_eqb n (length t.sets) e)

-- what a turn does, in three cases
pub data Turned (f : ℕ → ℕ → ℕ) (j : ℕ) (t u : Table) : Type 0 where
  idle : symbol_count * length t.sets ≤ j → u ≡ t → Turned f j t u
  old : j < symbol_count * length t.sets → idx t.sets (next f j t.sets) < length t.sets
      → u.sets ≡ t.sets → u.rows ≡ t.rows ++ (idx t.sets (next f j t.sets) ∷ []) → Turned f j t u
  new : j < symbol_count * length t.sets → idx t.sets (next f j t.sets) ≡ length t.sets
      → u.sets ≡ t.sets ++ (next f j t.sets ∷ []) → u.rows ≡ t.rows ++ (idx t.sets (next f j t.sets) ∷ []) → Turned f j t u

module _ (f : ℕ → ℕ → ℕ) (j : ℕ) (t : Table) where
  turn_go : j < symbol_count * length t.sets → turn f j t ≡ enter (idx t.sets (next f j t.sets)) (next f j t.sets) t
  unfolding turn met
  turn_go h = rw (lt-ltb j (symbol_count * length t.sets) h, turn)

  turn_idle : symbol_count * length t.sets ≤ j → turn f j t ≡ t
  unfolding turn
  turn_idle h = rw (le-ltb j (symbol_count * length t.sets) h, turn)

  turned : Turned f j t (turn f j t)
  turned = by (dec_lt j (symbol_count * length t.sets))
    where
      by_number : j < symbol_count * length t.sets → Dec (idx t.sets (next f j t.sets) ≡ length t.sets) → Turned f j t (turn f j t)
      by_number h (yes e) = let q = turn_go h ∙ enter_new _ _ t e in new h e (ap (λ (u : Table). u.sets) q) (ap (λ (u : Table). u.rows) q)
      by_number h (no ne) =
          let q = turn_go h ∙ enter_old _ _ t ne in
          old h (omega (arith, idx_le t.sets (next f j t.sets))) (ap (λ (u : Table). u.sets) q) (ap (λ (u : Table). u.rows) q)

      by : Dec (j < symbol_count * length t.sets) → Turned f j t (turn f j t)
      by (yes h) = by_number h (ℕ_discrete _ _)
      by (no h) = let g : symbol_count * length t.sets ≤ j = omega arith in idle g (turn_idle g)

module _ (f : ℕ → ℕ → ℕ) (s : ℕ) where
  pub run_suc : (j : ℕ) → run f s (suc j) ≡ turn f j (run f s j)
  unfolding run
  run_suc j = refl

  pub ran : (j : ℕ) → Turned f j (run f s j) (run f s (suc j))
  unfolding run
  ran j = turned f j (run f s j)

  -- once every pair of the sets at hand is done, nothing changes
  pub run_done : (j m : ℕ) → symbol_count * length (run f s j).sets ≤ j → run f s (j + m) ≡ run f s j
  run_done j zero h = ap (run f s) (add-zero j)
  run_done j (suc m) h =
      let e : run f s (j + m) ≡ run f s j = run_done j m h in
      let k : symbol_count * length (run f s (j + m)).sets ≤ j + m = rw e (omega arith) in
      ap (run f s) (add-suc j m) ∙ run_suc (j + m) ∙ turn_idle f (j + m) (run f s (j + m)) k ∙ e

  -- the sets only grow, at their end
  grows_one : (t u : Table) (j : ℕ) → Turned f j t u → (T : List ℕ) × (u.sets ≡ t.sets ++ T)
  grows_one t u j (idle h e) = ([], ap (λ (v : Table). v.sets) e ∙ sym (append-nil t.sets))
  grows_one t u j (old h i e r) = ([], e ∙ sym (append-nil t.sets))
  grows_one t u j (new h i e r) = (_, e)

  pub grows : (j m : ℕ) → (T : List ℕ) × ((run f s (j + m)).sets ≡ (run f s j).sets ++ T)
  grows j zero = ([], ap (λ (k : ℕ). (run f s k).sets) (add-zero j) ∙ sym (append-nil _))
  grows j (suc m) =
      let a = grows j m in
      let b = grows_one (run f s (j + m)) (run f s (suc (j + m))) (j + m) (ran (j + m)) in (
        a.0 ++ b.0,
        ap (λ (k : ℕ). (run f s k).sets) (add-suc j m) ∙ b.1 ∙ ap (λ (l : List ℕ). l ++ b.0) a.1 ∙ append_assoc (run f s j).sets a.0 b.0,
      )

  pub run_more : (j m : ℕ) → length (run f s j).sets ≤ length (run f s (j + m)).sets
  run_more j m = let g = grows j m in omega (arith, simp length-append at (ap length g.1))

  -- the same up to the last pair
  pub all_more : (j : ℕ) → j ≤ pairs → length (run f s j).sets ≤ length (all f s).sets
  unfolding all
  all_more j h =
      let e : j + (pairs - j) ≡ pairs = omega arith in
      subst (λ (k : ℕ). length (run f s j).sets ≤ length (run f s k).sets) e (run_more j (pairs - j))

  pub all_done : (j : ℕ) → j ≤ pairs → symbol_count * length (run f s j).sets ≤ j → all f s ≡ run f s j
  unfolding all
  all_done j h d =
      let e : j + (pairs - j) ≡ pairs = omega arith in
      ap (run f s) (sym e) ∙ run_done j (pairs - j) d
