-- Two races on one tape: output, taken stretches and account of a joined tape are those of the first tape, then the symbol between with its own position,
-- then those of the second moved on. Assumes nothing.
use Prim.Native.Nat.{ℕ, suc, ◌+◌, ◌-◌, ◌≤◌, ◌<◌}
use mathlib.Core.List.{List, [], ◌∷◌, ◌++◌, map, map-append, append-nil}
use mathlib.Core.Bool.{Bool, true, false, cond, ◌&&◌}
use mathlib.Core.Path.{◌≡◌, refl, subst, sym, ap, ap₂, ◌∙◌}
use mathlib.Core.Logic.{◌↔◌, ◌⊎◌, inl, inr, by_cases}
use native.Mathlib.Omega.{arith}
use native.Mathlib.Decide.{dec_lt}
use borrow.Author.Tests.{le-ltb}
use lib.Dec.{T, eqb, ltb}
use lib.ListN.{length}
use Rattle.book.specs.Language.{Rules}
use Rattle.book.specs.Unused.{Blind}
use Rattle.stretches.specs.Candidates.{Stretch, candidate, rule_of, keep, taken_at, taken}
use Rattle.stretches.specs.Output.{Mark, word_marks, kept_marks, rule_word, written, written_at, rewriting}
use Rattle.stretches.specs.Account.{Line, line_for, each, lines_at, account, words_in}
use Rattle.stretches.specs.Sentences.{Candidate}
use Rattle.stretches.specs.Races.{joined, beyond, marker, later, moved, words_moved, shifted}
use Rattle.stretches.proofs.Lists.{ltb_later, eqb_later, each_split, each_none, each_same, each_later, keep_map, map_each}
use Rattle.stretches.proofs.WordMarks.{word_later, marks_later}
use Rattle.stretches.proofs.Walks.{over, stands, symbol_at, symbol_end, end_inside, last_start}
use Rattle.stretches.proofs.Races.{length_joined, candidate_before, candidate_across, candidate_later}
use Rattle.stretches.proofs.Races.{rule_before, rule_later, walk_joins}

cond_map {ℓ κ} : {A : Type ℓ} {B : Type κ} (h : A → B) (c : Bool) (x y : List A) → cond c (map h x) (map h y) ≡ map h (cond c x y)
cond_map h true x y = refl
cond_map h false x y = refl

module _ (b : Rules) where
  -- where what stands over i begins at i and is empty, its word is written and the symbol kept
  written_empty : (t : List ℕ) (i : ℕ) (x : List ℕ) (d : Stretch) → i ≤ d.start → d.end ≤ i
      → written_at b t i x d ≡ cond d.taken (written b t d.start d.end) [] ++ kept_marks x i
  written_empty t i x d h g = rw (le-ltb d.start i h, le-ltb i d.end g)

module _ (b : Rules) (t : List ℕ) (m : ℕ) (u : List ℕ) (blind : Blind m b) where
  abbrev J : List ℕ
  J = joined t m u

  abbrev K : ℕ
  K = beyond t

  -- ---- the output
  written_before : (i j : ℕ) → i ≤ length t → j ≤ length t → written b J i j ≡ written b t i j
  written_before i j h g = ap (λ (r : ℕ). word_marks (rule_word b r) i j) (rule_before t m u b blind i j h g)

  written_later : (i j : ℕ) → written b J (K + i) (K + j) ≡ map (later K) (written b u i j)
  written_later i j = ap (λ (r : ℕ). word_marks (rule_word b r) (K + i) (K + j)) (rule_later t m u b blind i j) ∙ word_later (rule_word b (rule_of b u i j)) K i j

  writes_before : (i : ℕ) (x : List ℕ) → i < length t → written_at b J i x (over b t i) ≡ written_at b t i x (over b t i)
  writes_before i x h =
      let d = over b t i in
      let s = (stands b t i).low in
      ap (λ (w : List Mark). cond (ltb d.start i) [] (cond d.taken w [] ++ cond (ltb i d.end) [] (kept_marks x i)))
      (written_before d.start d.end (omega arith) (end_inside b t i (omega arith)))

  -- the symbol is kept with its own position, after what is put in at the end of t
  writes_marker : written_at b J (length t) (m ∷ []) (over b t (length t))
      ≡ written_at b t (length t) (symbol_at b t (length t)) (over b t (length t)) ++ (marker t m ∷ [])
  writes_marker =
      let n = length t in
      let d = over b t n in
      let s = last_start b t in
      let e = end_inside b t n (omega arith) in
      let W = cond d.taken (written b t d.start d.end) [] in
      let M : List Mark = marker t m ∷ [] in
      written_empty b J n (m ∷ []) d (omega arith) e
      ∙ ap (λ (w : List Mark). cond d.taken w [] ++ M) (written_before d.start d.end (omega arith) e)
      ∙ ap (λ (w : List Mark). w ++ M) (sym (append-nil W) ∙ sym (written_empty b t n [] d (omega arith) e))
      ∙ ap (λ (x : List ℕ). written_at b t n x d ++ M) (sym (symbol_end b t n (omega arith)))

  writes_later : (i : ℕ) (x : List ℕ) (d : Stretch) → written_at b J (K + i) x (shifted K d) ≡ map (later K) (written_at b u i x d)
  writes_later i x d =
      let W = written b u d.start d.end in
      let X = kept_marks x i in
      let c = ltb d.start i in
      let e = ltb i d.end in
      let A = cond d.taken W [] in
      let B = cond e [] X in
      ap₂ (λ (c e : Bool). cond c [] (cond d.taken (written b J (K + d.start) (K + d.end)) [] ++ cond e [] (kept_marks x (K + i))))
      (ltb_later K d.start i) (ltb_later K i d.end)
      ∙ ap₂ (λ (w v : List Mark). cond c [] (cond d.taken w [] ++ cond e [] v)) (written_later d.start d.end) (marks_later x K i)
      ∙ ap₂ (λ (w v : List Mark). cond c [] (w ++ v)) (cond_map (later K) d.taken W []) (cond_map (later K) e [] X)
      ∙ ap (λ (w : List Mark). cond c [] w) (sym (map-append (later K) A B))
      ∙ cond_map (later K) c [] (A ++ B)

  pub rewriting_joins : rewriting b (joined t m u) ≡ rewriting b t ++ (marker t m ∷ map (later (beyond t)) (rewriting b u))
  unfolding rewriting
  rewriting_joins =
      walk_joins t m u b blind (written_at b J) (written_at b t) (written_at b u) (later K) (marker t m ∷ [])
      writes_before writes_marker (λ i x. writes_later i x (over b u i))

  -- ---- the stretches taken
  takes_later : (i : ℕ) (x : List ℕ) (d : Stretch) → taken_at (K + i) x (shifted K d) ≡ map (shifted K) (taken_at i x d)
  takes_later i x d = ap (λ (c : Bool). keep (c && d.taken) (shifted K d)) (eqb_later K d.start i) ∙ keep_map (shifted K) (eqb d.start i && d.taken) d

  pub taken_joins : taken b (joined t m u) ≡ taken b t ++ map (shifted (beyond t)) (taken b u)
  unfolding taken
  taken_joins =
      walk_joins t m u b blind taken_at taken_at taken_at (shifted K) []
      (λ i x h. refl) (sym (append-nil (taken_at (length t) [] (over b t (length t))))) (λ i x. takes_later i x (over b u i))

  -- ---- the account: a line looks at the tape for the deciding rule alone
  line_before : (i j r : ℕ) (d : Stretch) → d.start ≤ length t → d.end ≤ length t → line_for b J i j r d ≡ line_for b t i j r d
  line_before i j r d h g = rw (rule_before t m u b blind d.start d.end h g)

  line_later : (i j r : ℕ) (d : Stretch) → line_for b J (K + i) (K + j) r (shifted K d) ≡ moved K (line_for b u i j r d)
  line_later i j r d = rw (rule_later t m u b blind d.start d.end, ltb_later K d.start i, ltb_later K j d.end)

  abbrev rule_line : List ℕ → ℕ → Stretch → ℕ → ℕ → List Line
  rule_line w i d j r = keep (candidate b w i j r) (line_for b w i j r d)

  abbrev rules_at : List ℕ → ℕ → Stretch → ℕ → List Line
  rules_at w i d j = each (rule_line w i d j) 0 (length b.words)

  rules_before : (i j : ℕ) (d : Stretch) → i ≤ length t → j ≤ length t → d.start ≤ length t → d.end ≤ length t → rules_at J i d j ≡ rules_at t i d j
  rules_before i j d h g p q =
      each_same (rule_line J i d j) (rule_line t i d j) 0 (length b.words)
      (λ r x y. ap₂ keep (candidate_before t m u b blind i j h g r) (line_before i j r d p q))

  rules_across : (i j : ℕ) (d : Stretch) → i ≤ length t → length t < j → rules_at J i d j ≡ []
  rules_across i j d h g =
      each_none (rule_line J i d j) 0 (length b.words)
      (λ r x y. ap (λ (c : Bool). keep c (line_for b J i j r d)) (candidate_across t m u b blind i j h g r))

  rules_later : (i j : ℕ) (d : Stretch) → rules_at J (K + i) (shifted K d) (K + j) ≡ map (moved K) (rules_at u i d j)
  rules_later i j d =
      each_same (rule_line J (K + i) (shifted K d) (K + j)) (λ (r : ℕ). map (moved K) (rule_line u i d j r)) 0 (length b.words)
      (λ r x y. ap₂ keep (candidate_later t m u b blind i j r) (line_later i j r d) ∙ keep_map (moved K) (candidate b u i j r) (line_for b u i j r d))
      ∙ sym (map_each (moved K) (rule_line u i d j) 0 (length b.words))

  lines_before : (i : ℕ) (x : List ℕ) → i ≤ length t → lines_at b J i x (over b t i) ≡ lines_at b t i x (over b t i)
  lines_before i x h =
      let d = over b t i in
      let s = (stands b t i).low in
      let p : d.start ≤ length t = omega arith in
      let q = end_inside b t i h in
      let l = length_joined t m u in
      let e : suc (length J) - i ≡ suc (length t) - i + suc (length u) = omega arith in
      ap (each (rules_at J i d) i) e
      ∙ each_split (rules_at J i d) i (suc (length t) - i) (suc (length u))
      ∙ ap₂ (λ (y z : List Line). y ++ z)
      (each_same (rules_at J i d) (rules_at t i d) i (suc (length t) - i) (λ j y z. rules_before i j d h (omega arith) p q))
      (each_none (rules_at J i d) (i + (suc (length t) - i)) (suc (length u)) (λ j y z. rules_across i j d h (omega arith)))
      ∙ append-nil (each (rules_at t i d) i (suc (length t) - i))

  lines_later : (i : ℕ) (x : List ℕ) (d : Stretch) → lines_at b J (K + i) x (shifted K d) ≡ map (moved K) (lines_at b u i x d)
  lines_later i x d =
      let l = length_joined t m u in
      let e : suc (length J) - (K + i) ≡ suc (length u) - i = omega arith in
      ap (each (rules_at J (K + i) (shifted K d)) (K + i)) e
      ∙ each_later (rules_at J (K + i) (shifted K d)) K i (suc (length u) - i)
      ∙ each_same (λ (j : ℕ). rules_at J (K + i) (shifted K d) (K + j)) (λ (j : ℕ). map (moved K) (rules_at u i d j)) i (suc (length u) - i)
      (λ j y z. rules_later i j d)
      ∙ sym (map_each (moved K) (rules_at u i d) i (suc (length u) - i))

  pub account_joins : account b (joined t m u) ≡ account b t ++ map (moved (beyond t)) (account b u)
  unfolding account
  account_joins =
      walk_joins t m u b blind (lines_at b J) (lines_at b t) (lines_at b u) (moved K) []
      (λ i x h. lines_before i x (omega arith))
      (lines_before (length t) (m ∷ []) (omega arith) ∙ sym (append-nil (lines_at b t (length t) [] (over b t (length t)))))
      (λ i x. lines_later i x (over b u i))

  -- ---- the candidates: those of t, and those of u moved on
  pub candidates_join : (i j r : ℕ) → Candidate b (joined t m u) i j r
      ↔ (Candidate b t i j r ⊎ ((x y : ℕ) × (i ≡ beyond t + x) × (j ≡ beyond t + y) × Candidate b u x y r))
  candidates_join i j r = (λ c. by_cases (dec_lt (length t) i) (λ h. inr (past c h)) (λ h. inl (before c (omega arith) (dec_lt (length t) j))), from)
    where
      before : Candidate b J i j r → i ≤ length t → Dec (length t < j) → Candidate b t i j r
      before c h (yes g) = absurd (subst T (candidate_across t m u b blind i j h g r) c.holds)
      before c h (no g) =
          let e = candidate_before t m u b blind i j h (omega arith) r in
          record { ordered = c.ordered; inside = omega arith; known = c.known; holds = subst T e c.holds }

      past : Candidate b J i j r → length t < i → (x y : ℕ) × (i ≡ K + x) × (j ≡ K + y) × Candidate b u x y r
      past c h =
          let l = length_joined t m u in
          let o = c.ordered in
          let n = c.inside in
          let p : i ≡ K + (i - K) = omega arith in
          let q : j ≡ K + (j - K) = omega arith in
          let e = ap₂ (λ (x y : ℕ). candidate b J x y r) p q ∙ candidate_later t m u b blind (i - K) (j - K) r in
          (i - K, j - K, p, q, record { ordered = omega arith; inside = omega arith; known = c.known; holds = subst T e c.holds })

      from : Candidate b t i j r ⊎ ((x y : ℕ) × (i ≡ K + x) × (j ≡ K + y) × Candidate b u x y r) → Candidate b J i j r
      from (inl c) =
          let l = length_joined t m u in
          let o = c.ordered in
          let n = c.inside in
          let e = sym (candidate_before t m u b blind i j (omega arith) n r) in
          record { ordered = o; inside = omega arith; known = c.known; holds = subst T e c.holds }
      from (inr z) =
          let l = length_joined t m u in
          let p = z.2 in
          let q = z.3 in
          let c = z.4 in
          let o = c.ordered in
          let n = c.inside in
          let e = sym (ap₂ (λ (x y : ℕ). candidate b J x y r) p q ∙ candidate_later t m u b blind z.0 z.1 r) in
          record { ordered = omega arith; inside = omega arith; known = c.known; holds = subst T e c.holds }

-- ---- the words of lines that are moved on
pub words_moved_lem : (k : ℕ) (ls : List Line) → words_in (map (moved k) ls) ≡ words_moved k (words_in ls)
unfolding words_in
words_moved_lem k [] = refl
words_moved_lem k (l ∷ ls) =
    ap (λ (ws : List ℕ). l.rule ∷ (k + l.start) ∷ (k + l.end) ∷ l.verdict ∷ (k + l.deciding) ∷ l.deciding_rule ∷ ws) (words_moved_lem k ls)
