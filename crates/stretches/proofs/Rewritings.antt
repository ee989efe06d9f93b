-- The rewriting is the paper's Rewrite_LML(BR, t), words put in too. Assumes nothing.
use Prim.Native.Nat.{ℕ, ◌≤◌, ◌<◌}
use mathlib.Core.List.{List, [], ◌∷◌, ◌++◌, append-nil}
use mathlib.Core.Bool.{Bool, true, false, cond}
use mathlib.Core.Path.{◌≡◌, refl, subst, sym, ap, ap₂, ◌∙◌}
use mathlib.Core.Logic.{◌↔◌, by_cases}
use native.Mathlib.Omega.{arith}
use native.Mathlib.Decide.{dec_lt, dec_le}
use native.Mathlib.Nat.{zero-add}
use lib.Dec.{ltb}
use lib.ListN.{length, get_or}
use Rattle.book.specs.Language.{Rules}
use Rattle.stretches.specs.Candidates.{Stretch, rule_of}
use Rattle.stretches.specs.Output.{Mark, kept_marks, word_marks, rule_word, written, written_at, rewriting}
use Rattle.stretches.specs.Account.{each}
use Rattle.stretches.specs.Paper.{Context, start, end, Earliest, CLML, Put, Piece, RewriteLML}
use borrow.Author.Tests.{lt-ltb, le-ltb}
use Rattle.stretches.proofs.Lists.{each_snoc, each_same}
use Rattle.stretches.proofs.Words.{empty_end, end_empty}
use Rattle.stretches.proofs.Walks.{Some, over, over_mid, tape_over, symbol_at, symbol_at_lem, symbol_end, Walked, walked_over, lml_walked, Place}
use Rattle.stretches.proofs.Walks.{inside, begins, alone, place}
use Rattle.stretches.proofs.Stretches.{stretch, taken_walked, taken_paper, rule_paper}

module _ (b : Rules) (t : List ℕ) where
  abbrev pub said : ℕ → List Mark
  said i = written_at b t i (symbol_at b t i) (over b t i)

  -- what is written of the word put in at i, and of the symbol at i
  pub put_at : (i : ℕ) → Place b t i → List Mark
  put_at i (inside s e w h k o) = []
  put_at i (begins e w o) = cond (ltb i e) [] (written b t i e)
  put_at i (alone n o) = []

  pub piece_at : (i : ℕ) → Place b t i → List Mark
  piece_at i (inside s e w h k o) = []
  piece_at i (begins e w o) = cond (ltb i e) (written b t i e) (kept_marks (symbol_at b t i) i)
  piece_at i (alone n o) = kept_marks (symbol_at b t i) i

  said_is : (i : ℕ) (d : Stretch) → over b t i ≡ d → said i ≡ written_at b t i (symbol_at b t i) d
  said_is i d e = ap (written_at b t i (symbol_at b t i)) e

  pub said_parts : (i : ℕ) (p : Place b t i) → said i ≡ put_at i p ++ piece_at i p
  unfolding put_at piece_at
  said_parts i (inside s e w h k o) = said_is i (stretch s e) o ∙ rw (lt-ltb s i h)
  said_parts i (begins e w o) = said_is i (stretch i e) o ∙ rw (le-ltb i i (omega arith)) (go (ltb i e))
    where
      go : (c : Bool)
          → written b t i e ++ cond c [] (kept_marks (symbol_at b t i) i) ≡ cond c [] (written b t i e) ++ cond c (written b t i e) (kept_marks (symbol_at b t i) i)
      go true = append-nil (written b t i e)
      go false = refl
  said_parts i (alone n o) = said_is i (record { start = i; end = i; taken = false }) o ∙ rw (le-ltb i i (omega arith))

  in_lml : (i j : ℕ) → Walked b t i j → (c : Context) × CLML b t c × (start c ≡ i) × (end c ≡ j)
  in_lml i j w = (taken_paper b t i j).0 ((taken_walked b t i j).1 w)

  of_lml : (c : Context) → CLML b t c → Walked b t (start c) (end c)
  of_lml c x = ((lml_walked b t c).0 x).1

  earliest_is : (c : Context) (r : ℕ) → CLML b t c → Earliest b t c r → r ≡ rule_of b t (start c) (end c)
  earliest_is c r x e =
      let a = rule_paper b t c x in
      let p = e.least (rule_of b t (start c) (end c)) a.known a.context in
      let q = a.least r e.known e.context in
      omega arith

  is_earliest : (c : Context) (i e : ℕ) → CLML b t c → start c ≡ i → end c ≡ e → Earliest b t c (rule_of b t i e)
  is_earliest c i e x p q = let g : rule_of b t (start c) (end c) ≡ rule_of b t i e = λ k. rule_of b t (p k) (q k) in subst (Earliest b t c) g (rule_paper b t c x)

  pub walked_one : {i j e : ℕ} → Walked b t i j → Walked b t i e → j ≡ e
  walked_one w v = w.far ∙ sym v.far

  pub walked_apart : {s e i j : ℕ} → Walked b t s e → s < i → i < e → Walked b t i j → ⊥
  walked_apart {s} {e} {i} {j} w h k v =
      let f = w.far in
      let a = ap (λ (d : Stretch). d.start) (sym (walked_over b t v) ∙ over_mid b t s i w.free (omega arith) (omega arith) ∙ walked_over b t w) in
      omega arith

  -- the word of a context of C_LML
  context_word : Context → ℕ → List Mark
  context_word c r = word_marks (rule_word b r) (start c) (end c)

  word_is : (c : Context) (r i e : ℕ) → CLML b t c → Earliest b t c r → start c ≡ i → end c ≡ e → context_word c r ≡ written b t i e
  unfolding context_word
  word_is c r i e x y p q = ap (context_word c) (earliest_is c r x y) ∙ (λ k. written b t (p k) (q k))

  -- the contexts of C_LML over i, by what stands over i
  lml_at : (c : Context) (i : ℕ) → CLML b t c → start c ≡ i → Walked b t i (end c)
  lml_at c i x e = subst (λ (z : ℕ). Walked b t z (end c)) e (of_lml c x)

  put_word : (c : Context) (i e : ℕ) → CLML b t c → start c ≡ i → end c ≡ e → e ≡ i → Put b t i (written b t i e)
  unfolding context_word
  put_word c i e x p q h =
      let E = is_earliest c i e x p q in
      subst (Put b t i) (word_is c (rule_of b t i e) i e x E p q) (Put.word c (rule_of b t i e) x p (end_empty c.u c.v (q ∙ h ∙ sym p)) E)

  piece_word : (c : Context) (i e : ℕ) → CLML b t c → start c ≡ i → end c ≡ e → i < e → Piece b t i (written b t i e)
  unfolding context_word
  piece_word c i e x p q h =
      let E = is_earliest c i e x p q in subst (Piece b t i) (word_is c (rule_of b t i e) i e x E p q) (Piece.word c (rule_of b t i e) x p (omega arith) E)

  put_in : (i : ℕ) (p : Place b t i) → Put b t i (put_at i p)
  unfolding put_at
  put_in i (inside s e w h k o) = Put.none (λ c x p q. walked_apart w h k (lml_at c i x p))
  put_in i (alone n o) = Put.none (λ c x p q. n (end c) (lml_at c i x p).some)
  put_in i (begins e w o) = by_cases (dec_lt i e)
      (λ h. subst (Put b t i) (sym (ap (λ (z : Bool). cond z [] (written b t i e)) (lt-ltb i e h)))
      (Put.none (λ c x p q. let z = walked_one w (lml_at c i x p) in let f = empty_end c.u c.v q in omega arith)))
      (λ h. let l = w.some.cand.ordered in
      let g : e ≡ i = omega arith in
      let z = in_lml i e w in
      subst (Put b t i) (sym (ap (λ (z : Bool). cond z [] (written b t i e)) (le-ltb i e (omega arith))))
      (put_word z.0 i e z.1 z.2 z.3 g))

  -- nothing covers i
  abbrev pub Bare : ℕ → Type 0
  Bare i = (s e : ℕ) → Walked b t s e → s ≤ i → i < e → ⊥

  pub bare_alone : (i : ℕ) → ((j : ℕ) → Some b t i j → ⊥) → over b t i ≡ record { start = i; end = i; taken = false } → Bare i
  bare_alone i m o s e w h k =
      let f = w.far in
      let z = ap (λ (d : Stretch). d.end) (sym o ∙ over_mid b t s i w.free h (omega arith) ∙ walked_over b t w) in
      omega arith

  pub bare_begins : (i e : ℕ) → e ≤ i → Walked b t i e → Bare i
  bare_begins i e g w s f v h k = by_cases (dec_lt s i) (λ l. walked_apart v l k w)
      (λ l. let q : s ≡ i = omega arith in let z = walked_one w (subst (λ (z : ℕ). Walked b t z f) q v) in omega arith)

  symbol_kept : (i : ℕ) → i < length t → kept_marks (symbol_at b t i) i ≡ kept_marks (get_or t i 0 ∷ []) i
  symbol_kept i n = ap (λ (x : List ℕ). kept_marks x i) (symbol_at_lem b t i n)

  kept_in : (i : ℕ) → i < length t → Bare i → Piece b t i (kept_marks (symbol_at b t i) i)
  kept_in i n m = subst (Piece b t i) (sym (symbol_kept i n)) (Piece.kept (λ c x h k. m (start c) (end c) (of_lml c x) h k))

  piece_in : (i : ℕ) (p : Place b t i) → i < length t → Piece b t i (piece_at i p)
  unfolding piece_at
  piece_in i (inside s e w h k o) n = let z = in_lml s e w in let p = z.2 in let q = z.3 in Piece.gone z.0 z.1 (omega arith) (omega arith)
  piece_in i (alone m o) n = kept_in i n (bare_alone i m o)
  piece_in i (begins e w o) n = by_cases (dec_lt i e)
      (λ h. let z = in_lml i e w in let q = z.3 in
      subst (Piece b t i) (sym (ap (λ (z : Bool). cond z (written b t i e) (kept_marks (symbol_at b t i) i)) (lt-ltb i e h)))
      (piece_word z.0 i e z.1 z.2 z.3 h))
      (λ h. subst (Piece b t i) (sym (ap (λ (z : Bool). cond z (written b t i e) (kept_marks (symbol_at b t i) i)) (le-ltb i e (omega arith))))
      (kept_in i n (bare_begins i e (omega arith) w)))

  -- and nothing else does
  put_out : (i : ℕ) (p : Place b t i) (x : List Mark) → Put b t i x → x ≡ put_at i p
  unfolding put_at context_word
  put_out i (inside s e w h k o) x (Put.word c r y p q z) = absurd (walked_apart w h k (lml_at c i y p))
  put_out i (inside s e w h k o) x (Put.none m) = refl
  put_out i (alone m o) x (Put.word c r y p q z) = absurd (m (end c) (lml_at c i y p).some)
  put_out i (alone m o) x (Put.none n) = refl
  put_out i (begins e w o) x (Put.word c r y p q z) =
      let g = walked_one w (lml_at c i y p) in
      let f = empty_end c.u c.v q in
      word_is c r i e y z p (sym g) ∙ sym (ap (λ (z : Bool). cond z [] (written b t i e)) (le-ltb i e (omega arith)))
  put_out i (begins e w o) x (Put.none m) = by_cases (dec_lt i e)
      (λ h. sym (ap (λ (z : Bool). cond z [] (written b t i e)) (lt-ltb i e h)))
      (λ h. let l = w.some.cand.ordered in let z = in_lml i e w in let p = z.2 in let q = z.3 in
      absurd (m z.0 z.1 p (end_empty z.0.u z.0.v (omega arith))))

  piece_out : (i : ℕ) (p : Place b t i) → i < length t → (x : List Mark) → Piece b t i x → x ≡ piece_at i p
  unfolding piece_at context_word
  piece_out i (inside s e w h k o) n x (Piece.word c r y p q z) = absurd (walked_apart w h k (lml_at c i y p))
  piece_out i (inside s e w h k o) n x (Piece.gone c y p q) = refl
  piece_out i (inside s e w h k o) n x (Piece.kept m) =
      let z = in_lml s e w in let p = z.2 in let q = z.3 in absurd (m z.0 z.1 (omega arith) (omega arith))
  piece_out i (alone m o) n x (Piece.word c r y p q z) = absurd (m (end c) (lml_at c i y p).some)
  piece_out i (alone m o) n x (Piece.gone c y p q) = absurd (bare_alone i m o (start c) (end c) (of_lml c y) (omega arith) q)
  piece_out i (alone m o) n x (Piece.kept k) = sym (symbol_kept i n)
  piece_out i (begins e w o) n x (Piece.word c r y p q z) =
      let g = walked_one w (lml_at c i y p) in
      word_is c r i e y z p (sym g) ∙ sym (ap (λ (z : Bool). cond z (written b t i e) (kept_marks (symbol_at b t i) i)) (lt-ltb i e (omega arith)))
  piece_out i (begins e w o) n x (Piece.gone c y p q) = absurd (walked_apart (of_lml c y) p q w)
  piece_out i (begins e w o) n x (Piece.kept m) = by_cases (dec_lt i e)
      (λ h. let z = in_lml i e w in let p = z.2 in let q = z.3 in absurd (m z.0 z.1 (omega arith) (omega arith)))
      (λ h. sym (ap (λ (z : Bool). cond z (written b t i e) (kept_marks (symbol_at b t i) i)) (le-ltb i e (omega arith)) ∙ symbol_kept i n))

  -- the end of the tape has no symbol
  piece_end : (p : Place b t (length t)) → piece_at (length t) p ≡ []
  unfolding piece_at
  piece_end (inside s e w h k o) = refl
  piece_end (alone m o) = ap (λ (x : List ℕ). kept_marks x (length t)) (symbol_end b t (length t) (omega arith))
  piece_end (begins e w o) =
      let l = w.some.cand.inside in
      ap (λ (z : Bool). cond z (written b t (length t) e) (kept_marks (symbol_at b t (length t)) (length t))) (le-ltb (length t) e l)
      ∙ ap (λ (x : List ℕ). kept_marks x (length t)) (symbol_end b t (length t) (omega arith))

  x_of : (i : ℕ) → Dec (i ≤ length t) → List Mark
  x_of i (yes h) = piece_at i (place b t i h)
  x_of i (no h) = []

  y_of : (i : ℕ) → Dec (i ≤ length t) → List Mark
  y_of i (yes h) = put_at i (place b t i h)
  y_of i (no h) = []

  pub rewriting_each : rewriting b t ≡ each said 0 (length t) ++ said (length t)
  unfolding rewriting
  rewriting_each = tape_over b t (written_at b t) ∙ each_snoc said 0 (length t) ∙ ap (λ (x : ℕ). each said 0 (length t) ++ said x) (zero-add (length t))

  said_end : (p : Place b t (length t)) → said (length t) ≡ put_at (length t) p
  said_end p = said_parts (length t) p ∙ ap (λ (x : List Mark). put_at (length t) p ++ x) (piece_end p) ∙ append-nil (put_at (length t) p)

  -- the rewriting is Rewrite_LML(BR, t) of 3.12, and nothing else is
  pub rewriting_paper : (out : List Mark) → RewriteLML b t out ↔ (out ≡ rewriting b t)
  unfolding x_of y_of
  rewriting_paper out = (
    uniq,
    λ e. record {
      x = λ (i : ℕ). x_of i (dec_le i (length t));
      y = λ (i : ℕ). y_of i (dec_le i (length t));
      piece = λ i h. pieces i h (dec_le i (length t));
      put = λ i h. puts i h (dec_le i (length t));
      whole =
          e ∙ rewriting_each ∙ ap₂ (λ x y. x ++ y) (each_same said (λ (i : ℕ). y_of i (dec_le i (length t)) ++ x_of i (dec_le i (length t))) 0 (length t)
          (λ k h g. both k (omega arith) (dec_le k (length t)))) (last (dec_le (length t) (length t)));
    },
  )
    where
      uniq : RewriteLML b t out → out ≡ rewriting b t
      uniq r = r.whole ∙ ap₂ (λ x y. x ++ y) (each_same (λ (i : ℕ). r.y i ++ r.x i) said 0 (length t)
          (λ k h g. let q : k ≤ length t = omega arith in let p = place b t k q in
          ap₂ (λ x y. x ++ y) (put_out k p (r.y k) (r.put k q)) (piece_out k p (omega arith) (r.x k) (r.piece k (omega arith))) ∙ sym (said_parts k p)))
          (let q : length t ≤ length t = omega arith in let p = place b t (length t) q in put_out (length t) p (r.y (length t)) (r.put (length t) q)
          ∙ sym (said_end p)) ∙ sym rewriting_each

      pieces : (i : ℕ) → i < length t → (d : Dec (i ≤ length t)) → Piece b t i (x_of i d)
      pieces i h (yes k) = piece_in i (place b t i k) h
      pieces i h (no k) = absurd (k (omega arith))

      puts : (i : ℕ) → i ≤ length t → (d : Dec (i ≤ length t)) → Put b t i (y_of i d)
      puts i h (yes k) = put_in i (place b t i k)
      puts i h (no k) = absurd (k h)

      both : (i : ℕ) → i ≤ length t → (d : Dec (i ≤ length t)) → said i ≡ y_of i d ++ x_of i d
      both i h (yes k) = said_parts i (place b t i k)
      both i h (no k) = absurd (k h)

      last : (d : Dec (length t ≤ length t)) → said (length t) ≡ y_of (length t) d
      last (yes k) = said_end (place b t (length t) k)
      last (no k) = absurd (k (omega arith))
