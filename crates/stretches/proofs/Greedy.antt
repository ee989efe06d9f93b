-- Leftmost-longest over any candidates: the paper's sequence is the taken starts in order. Assumes nothing.
use Prim.Native.Nat.{ℕ, zero, suc, ◌≤◌, ◌<◌}
use mathlib.Core.List.{List}
use mathlib.Core.Path.{◌≡◌, refl, subst, sym, ap, ◌∙◌}
use mathlib.Core.Logic.{◌↔◌, ◌⊎◌, inl, inr, ⊎_elim, by_cases}
use native.Mathlib.Omega.{arith}
use native.Mathlib.Decide.{ℕ_discrete, dec_le, dec_lt, le_ind}
use Rattle.book.specs.Language.{Rules}
use Rattle.stretches.specs.Paper.{Context, start, end, Contexts, C, After, Leftmost, Seq, CLM, CLML, Over, Overlap}
use lib.ListN.{length, length-append}

-- a walk over the candidates K: the positions that no taken stretch has strictly inside, and where the longest candidate at a position ends
pub record GreedyWalk (K : ℕ → ℕ → Type 0) : Type 1 where
  pub Free : ℕ → Type 0
  pub far : ℕ → ℕ
  pub around : (i : ℕ) → Free i ⊎ ((s : ℕ) × Free s × K s (far s) × (s < i) × (i < far s))
  pub apart : (s i : ℕ) → Free s → s < i → i < far s → Free i → ⊥
  pub up : (i j : ℕ) → K i j → i ≤ j
  pub long : (i j : ℕ) → K i j → j ≤ far i
  pub best : (i j : ℕ) → K i j → K i (far i)
  pub decide : (i : ℕ) → Dec (K i (far i))

module _ {K : ℕ → ℕ → Type 0} (W : GreedyWalk K) where
  -- i is a taken start
  pub record At (i : ℕ) : Type 0 where
    pub free : W.Free i
    pub cand : K i (W.far i)

  pub at_decide : (i : ℕ) → Dec (At i)
  at_decide i = go (W.around i) (W.decide i)
    where
      go : W.Free i ⊎ ((s : ℕ) × W.Free s × K s (W.far s) × (s < i) × (i < W.far s)) → Dec (K i (W.far i)) → Dec (At i)
      go (inl f) (yes k) = yes (record { free = f; cand = k })
      go (inl f) (no n) = no (λ a. n a.cand)
      go (inr h) d = no (λ a. W.apart h.0 i h.1 h.3 h.4 a.free)

  counted : {P : Type 0} → Dec P → ℕ → ℕ
  counted (yes p) n = suc n
  counted (no p) n = n

  -- how many taken starts are below i
  pub rank : ℕ → ℕ
  rank zero = zero
  rank (suc i) = counted (at_decide i) (rank i)

  counted_low : {P : Type 0} (d : Dec P) (n : ℕ) → n ≤ counted d n
  unfolding counted
  counted_low (yes p) n = omega arith
  counted_low (no p) n = omega arith

  counted_yes : {P : Type 0} (d : Dec P) (n : ℕ) → P → counted d n ≡ suc n
  unfolding counted
  counted_yes (yes p) n h = refl
  counted_yes (no p) n h = absurd (p h)

  rank_suc : (i : ℕ) → rank i ≤ rank (suc i)
  unfolding rank
  rank_suc i = counted_low (at_decide i) (rank i)

  pub rank_mono : (i k : ℕ) → i ≤ k → rank i ≤ rank k
  rank_mono i k h = le_ind (λ (k : ℕ). rank i ≤ rank k) (omega arith) (λ m g p. let q = rank_suc m in omega arith) k h

  rank_taken : (i : ℕ) → At i → rank (suc i) ≡ suc (rank i)
  unfolding rank
  rank_taken i a = counted_yes (at_decide i) (rank i) a

  pub rank_up : (i k : ℕ) → At i → i < k → rank i < rank k
  rank_up i k a h = let e = rank_taken i a in let m = rank_mono (suc i) k h in omega arith

  -- the taken start number k
  pub rank_find : (k i : ℕ) → k < rank i → (s : ℕ) × At s × (s < i) × (rank s ≡ k)
  unfolding rank counted
  rank_find k zero h = absurd (omega arith)
  rank_find k (suc i) h = go (at_decide i) h (λ g. rank_find k i g)
    where
      go : (d : Dec (At i)) → k < counted d (rank i) → (k < rank i → (s : ℕ) × At s × (s < i) × (rank s ≡ k)) → (s : ℕ) × At s × (s < suc i) × (rank s ≡ k)
      go (no n) g f = let z = f g in (z.0, z.1, omega arith, z.3)
      go (yes a) g f = by_cases (ℕ_discrete (rank i) k) (λ e. (i, a, omega arith, e)) (λ e. let z = f (omega arith) in (z.0, z.1, omega arith, z.3))

-- the remark after 3.5
pub overlap_over : (c d : Context) → Overlap c d ↔ (Over c d ⊎ Over d c)
overlap_over c d = (
  λ o. let p = o.one in let q = o.two in let n = o.other in
      by_cases (dec_lt (start d) (start c)) (λ h. inl (record { below = h; above = p })) (λ h. inr (record { below = omega arith; above = q })),
  λ x. ⊎_elim (λ o. let p = o.below in let q = o.above in let l = length-append c.u c.v in record { one = q; two = omega arith; other = omega arith })
      (λ o. let p = o.below in let q = o.above in let l = length-append d.u d.v in record { one = omega arith; two = q; other = omega arith }) x,
)

-- what a walk has to do with the contexts of a batch
pub record Reads (b : Rules) (t : List ℕ) (K : ℕ → ℕ → Type 0) : Type 0 where
  pub to : (c : Context) → C b t c → K (start c) (end c)
  pub from : (i j : ℕ) → K i j → (c : Context) × C b t c × (start c ≡ i) × (end c ≡ j)

module _ {K : ℕ → ℕ → Type 0} (W : GreedyWalk K) (b : Rules) (t : List ℕ) (R : Reads b t K) where
  -- the contexts at the first k taken starts; at the taken start number k
  pub record Below (k : ℕ) (c : Context) : Type 0 where
    pub member : C b t c
    pub free : W.Free (start c)
    pub less : rank W (start c) < k

  pub record Exact (k : ℕ) (c : Context) : Type 0 where
    pub member : C b t c
    pub free : W.Free (start c)
    pub same : rank W (start c) ≡ k

  at_of : (c : Context) → C b t c → W.Free (start c) → At W (start c)
  at_of c m f = record { free = f; cand = W.best (start c) (end c) (R.to c m) }

  module _ (k : ℕ) (A : Contexts) (ih : (c : Context) → A c ↔ Below k c) where
    -- a taken start below s, of rank below k: its longest context is in A
    earlier : (s : ℕ) → At W s → rank W s < k → (c : Context) × A c × (start c ≡ s) × (end c ≡ W.far s)
    earlier s a h =
        let z = R.from s (W.far s) a.cand in (
          z.0,
          (ih z.0).1 (record { member = z.1; free = subst W.Free (sym z.2) a.free; less = subst (λ (x : ℕ). rank W x < k) (sym z.2) h }),
          z.2,
          z.3,
        )

    exact_past : (c d : Context) → Exact k c → A d → (start d < start c) × (end d ≤ start c)
    exact_past c d x y =
        let m = (ih d).0 y in
        let h : start d < start c = by_cases (dec_lt (start d) (start c)) (λ g. g)
        (λ g. let z = rank_mono W (start c) (start d) (omega arith) in let e = x.same in let l = m.less in absurd (omega arith)) in
        let f : W.far (start d) ≤ start c = by_cases (dec_le (W.far (start d)) (start c)) (λ g. g)
        (λ g. absurd (W.apart (start d) (start c) m.free h (omega arith) x.free)) in
        let l = W.long (start d) (end d) (R.to d m.member) in
        (h, omega arith)

    exact_after : (c : Context) → Exact k c → After (C b t) A c
    exact_after c x = record { member = x.member; past = λ d y. (exact_past c d x y).1; apart = λ d y. let h = (exact_past c d x y).0 in omega arith }

    exact_first : (c d : Context) → Exact k c → After (C b t) A d → start c ≤ start d
    exact_first c d x y = by_cases (dec_le (start c) (start d)) (λ g. g) (λ g. absurd (⊎_elim
        (λ f. let r = rank_up W (start d) (start c) (at_of d y.member f) (omega arith) in
        let l : rank W (start d) < k = let e = x.same in omega arith in
        y.apart d ((ih d).1 (record { member = y.member; free = f; less = l })) refl)
        (λ h. let a : At W h.0 = record { free = h.1; cand = h.2 } in
        let r = rank_up W h.0 (start c) a (let l = h.3 in omega arith) in
        let z = earlier h.0 a (let e = x.same in omega arith) in
        let p = y.past z.0 z.1 in
        let l = h.4 in let e = z.3 in omega arith)
        (W.around (start d))))

    pub exact_in : (c : Context) → Exact k c → Leftmost (After (C b t) A) c
    exact_in c x = record { member = exact_after c x; first = λ d y. exact_first c d x y }

    -- the taken start number k is at or after each leftmost one
    ranked : (c : Context) → Leftmost (After (C b t) A) c → (i : ℕ) → k < rank W i → start c < i
    ranked c x i h =
        let z = rank_find W k i h in
        let y = R.from z.0 (W.far z.0) z.1.cand in
        let g = x.first y.0 (exact_after y.0 (record
        { member = y.1; free = subst W.Free (sym y.2) z.1.free; same = ap (rank W) y.2 ∙ z.3 })) in
        let e = y.2 in let l = z.2 in omega arith

    exact_out : (c : Context) → Leftmost (After (C b t) A) c → Exact k c
    exact_out c x = record { member = x.member.member; free = f; same = e }
      where
        f : W.Free (start c)
        f = ⊎_elim (λ g. g) (λ h. absurd (
            let a : At W h.0 = record { free = h.1; cand = h.2 } in
            by_cases (dec_lt (rank W h.0) k)
            (λ g. let z = earlier h.0 a g in let p = x.member.past z.0 z.1 in let l = h.4 in let e = z.3 in omega arith)
            (λ g. let r = rank_up W h.0 (suc h.0) a (omega arith) in let p = ranked c x (suc h.0) (omega arith) in let l = h.3 in omega arith)))
            (W.around (start c))

        e : rank W (start c) ≡ k
        e = by_cases (dec_lt (rank W (start c)) k)
            (λ g. absurd (x.member.apart c ((ih c).1 (record { member = x.member.member; free = f; less = g })) refl))
            (λ g. by_cases (dec_lt k (rank W (start c))) (λ h. let p = ranked c x (start c) h in absurd (omega arith)) (λ h. omega arith))

  seq_out : (k : ℕ) → ((c : Context) → Seq b t k c ↔ Below k c) → (c : Context) → Seq b t (suc k) c → Below (suc k) c
  seq_out k ih c (inl x) = let y = (ih c).0 x in let l = y.less in record { member = y.member; free = y.free; less = omega arith }
  seq_out k ih c (inr x) = let y = exact_out k (Seq b t k) ih c x in let l = y.same in record { member = y.member; free = y.free; less = omega arith }

  seq_in : (k : ℕ) → ((c : Context) → Seq b t k c ↔ Below k c) → (c : Context) → Below (suc k) c → Seq b t (suc k) c
  seq_in k ih c x = by_cases (ℕ_discrete (rank W (start c)) k)
      (λ e. inr (exact_in k (Seq b t k) ih c (record { member = x.member; free = x.free; same = e })))
      (λ e. let l = x.less in inl ((ih c).1 (record { member = x.member; free = x.free; less = omega arith })))

  -- the sequence of 3.7: its k-th set has the contexts at the first k taken starts
  pub seq : (k : ℕ) (c : Context) → Seq b t k c ↔ Below k c
  seq zero c = (λ x. absurd x, λ x. let l = x.less in absurd (omega arith))
  seq (suc k) c = (seq_out k (seq k) c, seq_in k (seq k) c)

  -- C_LM: the contexts whose start is free
  pub lm : (c : Context) → CLM b t c ↔ (C b t c × W.Free (start c))
  lm c = (
    λ x. let y = (seq x.k c).0 x.member in (y.member, y.free),
    λ x. record { k = suc (rank W (start c)); member = (seq (suc (rank W (start c))) c).1 (record { member = x.0; free = x.1; less = omega arith }) },
  )

  -- C_LML: those that end where the longest ends
  pub lml : (c : Context) → CLML b t c ↔ (C b t c × W.Free (start c) × (end c ≡ W.far (start c)))
  lml c = (out, into)
    where
      out : CLML b t c → C b t c × W.Free (start c) × (end c ≡ W.far (start c))
      out x =
          let y = (lm c).0 x.member in
          let k = R.to c y.0 in
          let z = R.from (start c) (W.far (start c)) (W.best (start c) (end c) k) in
          let l = x.longest z.0 ((lm z.0).1 (z.1, subst W.Free (sym z.2) y.1)) (sym z.2) in
          let g = W.long (start c) (end c) k in
          let p = length-append c.u c.v in
          let q = length-append z.0.u z.0.v in
          let e = z.2 in
          let f = z.3 in
          (y.0, y.1, omega arith)

      into : C b t c × W.Free (start c) × (end c ≡ W.far (start c)) → CLML b t c
      into x = record {
        member = (lm c).1 (x.0, x.1);
        longest = λ d y e.
            let g = W.long (start d) (end d) (R.to d ((lm d).0 y).0) in
            let f = ap W.far e in
            let h = x.2 in
            let p = length-append c.u c.v in
            let q = length-append d.u d.v in
            omega arith;
      }

  -- the remark after 3.9: contexts of C_LML with one start are of one length
  pub one_length : (c d : Context) → CLML b t c → CLML b t d → start c ≡ start d → length c.v ≡ length d.v
  one_length c d x y e = let p = x.longest d y.member e in let q = y.longest c x.member (sym e) in omega arith

  -- the end of 3.11's proof: beside each context of C_LM there is one of C_LML with its start, at least as long
  pub longest_beside : (c : Context) → CLM b t c → (d : Context) × CLML b t d × (start d ≡ start c) × (length c.v ≤ length d.v)
  longest_beside c x =
      let y = (lm c).0 x in
      let k = R.to c y.0 in
      let z = R.from (start c) (W.far (start c)) (W.best (start c) (end c) k) in
      let D = (lml z.0).1 (z.1, subst W.Free (sym z.2) y.1, z.3 ∙ sym (ap W.far z.2)) in
      (z.0, D, z.2, D.longest c x z.2)

  -- proposition 3.9: no two contexts of C_LM overlap
  pub no_overlap : (c d : Context) → CLM b t c → CLM b t d → Overlap c d → ⊥
  no_overlap c d x y o =
      let p = (lm c).0 x in
      let q = (lm d).0 y in
      let m = W.long (start c) (end c) (R.to c p.0) in
      let n = W.long (start d) (end d) (R.to d q.0) in
      let e = o.one in
      let f = o.two in
      let g = o.other in
      by_cases (dec_lt (start c) (start d)) (λ h. W.apart (start c) (start d) p.1 h (omega arith) q.1)
      (λ h. W.apart (start d) (start c) q.1 (omega arith) (omega arith) p.1)

  -- proposition 3.10: contexts with one start are in C_LM together
  pub same_start : (c d : Context) → C b t c → C b t d → start c ≡ start d → CLM b t c → CLM b t d
  same_start c d x y e z = (lm d).1 (y, subst W.Free e ((lm c).0 z).1)

  -- proposition 3.11: a context outside C_LM is over one of C_LML
  pub over_one : (c : Context) → C b t c → (CLM b t c → ⊥) → (d : Context) × CLML b t d × Over c d
  over_one c x n = ⊎_elim (λ f. absurd (n ((lm c).1 (x, f))))
      (λ h. let z = R.from h.0 (W.far h.0) h.2 in
      let e = z.2 in let f = z.3 in let k = h.3 in let l = h.4 in
      (z.0, (lml z.0).1 (z.1, subst W.Free (sym e) h.1, f ∙ sym (ap W.far e)), record { below = omega arith; above = omega arith }))
      (W.around (start c))
