-- For every batch, empty foci too: the stretches taken are those of C_LML and of document 01's sentence as document 02, No. 5, widens it. Assumes nothing.
use Prim.Native.Nat.{ℕ, zero, suc, ◌+◌, ◌<◌}
use mathlib.Core.List.Memᴰ
use mathlib.Core.List.{List, [], ◌∷◌, ◌++◌, Memᴰ}
use mathlib.Core.Bool.{true, false, ◌&&◌}
use mathlib.Core.Path.{◌≡◌, refl, subst, subst₂, sym, ap, ◌∙◌}
use mathlib.Core.Logic.{◌↔◌}
use native.Mathlib.Omega.{arith}
use lib.Dec.{eqb, eqb→eq, eqb_refl}
use lib.ListN.{length}
use Rattle.book.specs.Language.{Rules}
use Rattle.book.proofs.Tests.{and_both, and_left, and_right}
use Rattle.stretches.specs.Candidates.{Stretch, candidate, rule_of, taken_at, taken}
use Rattle.stretches.specs.Account.{each}
use Rattle.stretches.specs.Paper.{Context, start, end, Earliest, CLML}
use Rattle.stretches.specs.Sentences.{Candidate, Start, Chosen, Taken, first, next, Rising}
use Rattle.stretches.proofs.Lists.{each_in, each_out, keep_yes, keep_not}
use Rattle.stretches.proofs.First.{FirstPassing, first_is}
use Rattle.stretches.proofs.Smallest.{Farthest, TakenAmong, first as first-among, next as next-among}
use Rattle.stretches.proofs.Walks.{rc_candidate, rc_in, Some, over, tape_over, symbol_at, reads, Walked, walked_over, among_walked, lml_walked}
use Rattle.stretches.proofs.Walks.{Place, inside, begins, alone, place}

abbrev pub stretch : ℕ → ℕ → Stretch
stretch i j = record { start = i; end = j; taken = true }

module _ (b : Rules) (t : List ℕ) where
  -- 0. the list of taken stretches is what the walk takes
  abbrev pub tk : ℕ → List Stretch
  tk i = taken_at i (symbol_at b t i) (over b t i)

  pub tk_inside : (i s e : ℕ) → s < i → over b t i ≡ stretch s e → tk i ≡ []
  tk_inside i s e h o =
      ap (taken_at i (symbol_at b t i)) o ∙ keep_not (eqb s i && true) (stretch s e) (λ x. let z = eqb→eq s i (and_left (eqb s i) true x) in omega arith)

  pub tk_alone : (i : ℕ) → over b t i ≡ record { start = i; end = i; taken = false } → tk i ≡ []
  tk_alone i o =
      ap (taken_at i (symbol_at b t i)) o ∙ keep_not (eqb i i && false) (record { start = i; end = i; taken = false }) (λ x. and_right (eqb i i) false x)

  pub tk_begins : (i e : ℕ) → over b t i ≡ stretch i e → tk i ≡ stretch i e ∷ []
  tk_begins i e o = ap (taken_at i (symbol_at b t i)) o ∙ keep_yes (eqb i i && true) (stretch i e) (and_both (eqb i i) true (eqb_refl i) tt)

  pub taken_list : taken b t ≡ each tk 0 (suc (length t))
  unfolding taken
  taken_list = tape_over b t taken_at

  one_walked : (d : Stretch) (k : ℕ) → Place b t k → Memᴰ d (tk k) → Walked b t d.start d.end
  one_walked d k (inside s e w h g o) m = absurd (Memᴰ.not-nil (subst (Memᴰ d) (tk_inside k s e h o) m))
  one_walked d k (alone n o) m = absurd (Memᴰ.not-nil (subst (Memᴰ d) (tk_alone k o) m))
  one_walked d k (begins e w o) m =
      let z = Memᴰ.eq_of_singleton (subst (Memᴰ d) (tk_begins k e o) m) in
      subst₂ (Walked b t) (sym (ap (λ (d : Stretch). d.start) z)) (sym (ap (λ (d : Stretch). d.end) z)) w

  pub each_walked : (d : Stretch) → Memᴰ d (taken b t) → Walked b t d.start d.end
  each_walked d m =
      let z = each_out tk d 0 (suc (length t)) (subst (Memᴰ d) taken_list m) in
      let l = z.2 in
      one_walked d z.0 (place b t z.0 (omega arith)) z.3

  taken_out : (i j : ℕ) → Memᴰ (stretch i j) (taken b t) → Walked b t i j
  taken_out i j m = each_walked (stretch i j) m

  taken_in : (i j : ℕ) → Walked b t i j → Memᴰ (stretch i j) (taken b t)
  taken_in i j w =
      let c = w.some.cand in
      let h = c.ordered in
      let l = c.inside in
      subst (Memᴰ (stretch i j)) (sym taken_list) (each_in tk (stretch i j) 0 (suc (length t)) i (omega arith) (omega arith)
      (subst (Memᴰ (stretch i j)) (sym (tk_begins i j (walked_over b t w))) (Memᴰ.head refl)))

  pub taken_walked : (i j : ℕ) → Memᴰ (stretch i j) (taken b t) ↔ Walked b t i j
  taken_walked i j = (taken_out i j, taken_in i j)

  rising_down : (a : ℕ) (ds : List Stretch) → Rising (suc a) ds → Rising a ds
  rising_down a [] h = tt
  rising_down a (d ∷ ds) h = (omega (arith, h.0), h.1)

  each_rising : (k i : ℕ) → i + k ≡ suc (length t) → Rising i (each tk i k)
  each_rising zero i n = tt
  each_rising (suc k) i n = go (place b t i (omega arith)) (each_rising k (suc i) (omega arith))
    where
      with_nil : tk i ≡ [] → Rising (suc i) (each tk (suc i) k) → Rising i (each tk i (suc k))
      with_nil e h = subst (λ (x : List Stretch). Rising i (x ++ each tk (suc i) k)) (sym e) (rising_down i (each tk (suc i) k) h)

      go : Place b t i → Rising (suc i) (each tk (suc i) k) → Rising i (each tk i (suc k))
      go (inside s e w h g o) l = with_nil (tk_inside i s e h o) l
      go (begins e w o) l = subst (λ (x : List Stretch). Rising i (x ++ each tk (suc i) k)) (sym (tk_begins i e o)) (omega arith, l)
      go (alone m o) l = with_nil (tk_alone i o) l

  -- no start is taken twice
  pub taken_rising : Rising 0 (taken b t)
  taken_rising = subst (Rising 0) (sym taken_list) (each_rising (suc (length t)) 0 (omega arith))

  -- 1. the paper
  pub taken_paper : (i j : ℕ) → Memᴰ (stretch i j) (taken b t) ↔ ((c : Context) × CLML b t c × (start c ≡ i) × (end c ≡ j))
  taken_paper i j = (
    λ m. let w = taken_out i j m in
        let z = (reads b t).from i j w.some in
        (z.0, (lml_walked b t z.0).1 (z.1, subst₂ (Walked b t) (sym z.2) (sym z.3) w), z.2, z.3),
    λ z. taken_in i j (subst₂ (Walked b t) z.2 z.3 ((lml_walked b t z.0).0 z.1).1),
  )

  pub rule_first : (i j : ℕ) → Some b t i j → FirstPassing (candidate b t i j) 0 (length b.words) (rule_of b t i j)
  rule_first i j s =
      let c = s.cand in first_is (candidate b t i j) 0 (length b.words) 0 s.rule (omega arith) (let k = c.known in omega arith) c.holds

  pub rule_paper : (c : Context) → CLML b t c → Earliest b t c (rule_of b t (start c) (end c))
  rule_paper c x =
      let z = (lml_walked b t c).0 x in
      let f = rule_first (start c) (end c) z.1.some in
      record {
        known = let h = f.high in omega arith;
        context = rc_in b t c (rule_of b t (start c) (end c)) z.0.context.whole f.passes;
        least = λ q h y. f.least q (omega arith) (rc_candidate b t c q y);
      }

  -- 2. document 01's sentence
  of_rule : (i j : ℕ) → Some b t i j → Candidate b t i j (rule_of b t i j)
  of_rule i j s =
      let f = rule_first i j s in let c = s.cand in
      record { ordered = c.ordered; inside = c.inside; known = let h = f.high in omega arith; holds = f.passes }

  chosen : (i j : ℕ) → Farthest (Some b t) i j → Chosen b t i j (rule_of b t i j)
  chosen i j f = record {
    candidate = of_rule i j f.cand;
    longest = λ k q c. f.longest k (record { rule = q; cand = c });
    lowest = λ q c. (rule_first i j f.cand).least q (omega arith) c.holds;
  }

  farthest : (i j r : ℕ) → Chosen b t i j r → Farthest (Some b t) i j
  farthest i j r c = record { cand = record { rule = r; cand = c.candidate }; longest = λ k x. c.longest k x.rule x.cand }

  chosen_rule : (i j r : ℕ) → Chosen b t i j r → r ≡ rule_of b t i j
  chosen_rule i j r c =
      let s : Some b t i j = record { rule = r; cand = c.candidate } in
      let f = (rule_first i j s).least r (omega arith) c.candidate.holds in
      let g = c.lowest (rule_of b t i j) (of_rule i j s) in
      omega arith

  begun : {i j : ℕ} → Some b t i j → Start b t i
  begun {j = j} s = record { to = j; rule = s.rule; candidate = s.cand }

  sentence_among : {i j r : ℕ} → Taken b t i j r → TakenAmong (Some b t) i j × (r ≡ rule_of b t i j)
  sentence_among {i} {j} {r} (first m c) =
      (first-among (record { allowed = tt; least = λ k l p x. m.least k (begun x) }) (farthest i j r c), chosen_rule i j r c)
  sentence_among (next {k = k} {l = l} {q = q} y m c) = (
    next-among (sentence_among y).0 (record {
      allowed = (m.after, m.other);
      least = λ x e p s. let u = p.0 in let v = p.1 in
          m.least x (omega arith) (omega arith) (begun s);
    }) (farthest k l q c),
    chosen_rule k l q c,
  )

  among_sentence : {i j : ℕ} → TakenAmong (Some b t) i j → Taken b t i j (rule_of b t i j)
  among_sentence {i} {j} (first-among m f) =
      first (record { start = begun f.cand; least = λ k s. m.least k s.to tt (record { rule = s.rule; cand = s.candidate }) }) (chosen i j f)
  among_sentence (next-among {k = k} {l = l} y m f) = next (among_sentence y)
      (record {
        after = m.allowed.0;
        other = m.allowed.1;
        start = begun f.cand;
        least = λ x h g s. m.least x s.to (omega arith, omega arith) (record { rule = s.rule; cand = s.candidate });
      }) (chosen k l f)

  pub sentence_taken : (i j r : ℕ) → Taken b t i j r ↔ (Memᴰ (stretch i j) (taken b t) × (r ≡ rule_of b t i j))
  sentence_taken i j r = (
    λ x. let z = sentence_among x in (taken_in i j ((among_walked b t i j).0 z.0), z.1),
    λ z. subst (Taken b t i j) (sym z.1) (among_sentence ((among_walked b t i j).1 (taken_out i j z.0))),
  )

  pub sentence_paper : (i j r : ℕ) → Taken b t i j r ↔ ((c : Context) × CLML b t c × Earliest b t c r × (start c ≡ i) × (end c ≡ j))
  sentence_paper i j r = (out, into)
    where
      out : Taken b t i j r → (c : Context) × CLML b t c × Earliest b t c r × (start c ≡ i) × (end c ≡ j)
      out x =
          let z = (sentence_taken i j r).0 x in
          let y = (taken_paper i j).0 z.0 in
          let c = y.0 in
          let e : rule_of b t (start c) (end c) ≡ rule_of b t i j = λ k. rule_of b t (y.2 k) (y.3 k) in
          (c, y.1, subst (Earliest b t c) (e ∙ sym z.1) (rule_paper c y.1), y.2, y.3)

      into : (c : Context) × CLML b t c × Earliest b t c r × (start c ≡ i) × (end c ≡ j) → Taken b t i j r
      into z =
          let c = z.0 in
          let e = rule_paper c z.1 in
          let p = z.2.least (rule_of b t (start c) (end c)) e.known e.context in
          let q = e.least r z.2.known z.2.context in
          let s : r ≡ rule_of b t (start c) (end c) = omega arith in
          let g : rule_of b t (start c) (end c) ≡ rule_of b t i j = λ k. rule_of b t (z.3 k) (z.4 k) in
          (sentence_taken i j r).1 ((taken_paper i j).1 (c, z.1, z.3, z.4), s ∙ g)
