-- The walk of Candidates.antt is a leftmost-longest walk: what stands over each position. Assumes nothing.
use Prim.Native.Nat.{ℕ, zero, suc, ◌+◌, ◌-◌, ◌≤◌, ◌<◌}
use mathlib.Core.List.{List, [], ◌∷◌, ◌++◌, append-nil}
use mathlib.Core.Bool.{Bool, true, false, ◌&&◌}
use mathlib.Core.Path.{◌≡◌, refl, subst, sym, ap, ◌∙◌}
use mathlib.Core.Logic.{◌↔◌, ◌⊎◌, inl, inr, ⊎_elim, ◌≢◌, by_cases}
use native.Mathlib.Omega.{arith}
use native.Mathlib.Decide.{ℕ_discrete, dec_le, dec_lt, le_ind}
use lib.Dec.{T}
use lib.ListN.{length, get_or, take, drop, length-append, drop_of_length-le}
use lib.Seq.{slice, length-take-le, drop-cons}
use Rattle.book.specs.Language.{Rules, up_from}
use Rattle.book.proofs.Tests.{any_up, and_both, and_left, and_right}
use Rattle.stretches.specs.Candidates.{candidate, some_rule, Stretch, longest, fresh, cover, along, over_tape}
use Rattle.stretches.specs.Account.{each}
use Rattle.stretches.specs.Paper.{Context, start, end, RC, C, CLML}
use Rattle.stretches.specs.Sentences.{Candidate}
use borrow.Author.Tests.{lt-ltb, le-ltb}
use Rattle.stretches.proofs.Last.{last_low, last_high, last_passes, last_reach}
use Rattle.stretches.proofs.Words.{take_first, drop_third, slice_second, parts, end_within, end_at}
use Rattle.stretches.proofs.Greedy.{GreedyWalk, Reads, At, lml}
use Rattle.stretches.proofs.Smallest.{TakenAmong, among_out, among_in}

pub record Some (b : Rules) (t : List ℕ) (i j : ℕ) : Type 0 where
  pub rule : ℕ
  pub cand : Candidate b t i j rule

module _ (b : Rules) (t : List ℕ) where
  pub cover_in : (i : ℕ) (c : Stretch) → i < c.end → cover b t i c ≡ c
  cover_in i c h = rw (lt-ltb i c.end h, cover)

  pub cover_new : (i : ℕ) (c : Stretch) → c.end ≤ i → cover b t i c ≡ fresh b t i
  cover_new i c h = rw (le-ltb i c.end h, cover)

  -- what stands over i
  pub over : ℕ → Stretch
  over zero = cover b t 0 (record { start = 0; end = 0; taken = false })
  over (suc i) = cover b t (suc i) (over i)

  pub over_suc : (i : ℕ) → over (suc i) ≡ cover b t (suc i) (over i)
  unfolding over
  over_suc i = refl

  pub over_zero : over 0 ≡ fresh b t 0
  unfolding over
  over_zero = cover_new 0 (record { start = 0; end = 0; taken = false }) (omega arith)

  over_in : (i : ℕ) → suc i < (over i).end → over (suc i) ≡ over i
  unfolding over
  over_in i h = cover_in (suc i) (over i) h

  over_new : (i : ℕ) → (over i).end ≤ suc i → over (suc i) ≡ fresh b t (suc i)
  unfolding over
  over_new i h = cover_new (suc i) (over i) h

  pub record Stands (i : ℕ) (d : Stretch) : Type 0 where
    pub low : d.start ≤ i
    pub own : over d.start ≡ d
    pub is : d ≡ fresh b t d.start
    pub here : (d.start ≡ i) ⊎ (i < d.end)

  pub stands : (i : ℕ) → Stands i (over i)
  stands zero = subst (Stands 0) (sym over_zero) (record { low = omega arith; own = over_zero; is = refl; here = inl refl })
  stands (suc i) = go (stands i)
    where
      go : Stands i (over i) → Stands (suc i) (over (suc i))
      go s = by_cases (dec_lt (suc i) (over i).end)
          (λ h. subst (Stands (suc i)) (sym (over_in i h)) (record { low = let l = s.low in omega arith; own = s.own; is = s.is; here = inr h }))
          (λ h. let e = over_new i (omega arith) in subst (Stands (suc i)) (sym e) (record { low = omega arith; own = e; is = refl; here = inl refl }))

  -- a walk asks each position from 0 to the end for what stands over it
  abbrev pub symbol_at : ℕ → List ℕ
  symbol_at i = take 1 (drop i t)

  pub symbol_at_lem : (i : ℕ) → i < length t → symbol_at i ≡ get_or t i 0 ∷ []
  symbol_at_lem i h = ap (take 1) (drop-cons t i 0 h)

  pub symbol_end : (i : ℕ) → length t ≤ i → symbol_at i ≡ []
  symbol_end i h = ap (take 1) (drop_of_length-le t {i = i} h)

  along_over {ℓ} : {A : Type ℓ} (f : ℕ → List ℕ → Stretch → List A) (m i : ℕ) (c : Stretch) → cover b t i c ≡ over i → i + m ≡ length t
      → along f b t i c (drop i t) ≡ each (λ (k : ℕ). f k (symbol_at k) (over k)) i (suc m)
  unfolding over
  along_over f zero i c e h =
      let g : length t ≤ i = omega arith in
      ap (along f b t i c) (drop_of_length-le t {i = i} g) ∙ ap (f i []) e ∙ ap (λ (x : List ℕ). f i x (over i)) (sym (symbol_end i g))
      ∙ sym (append-nil (f i (symbol_at i) (over i)))
  along_over f (suc m) i c e h =
      let g : i < length t = omega arith in
      ap (along f b t i c) (drop-cons t i 0 g)
      ∙ ap (λ (d : Stretch). f i (get_or t i 0 ∷ []) d ++ along f b t (suc i) d (drop (suc i) t)) e
      ∙ ap (λ (x : List ℕ). f i x (over i) ++ along f b t (suc i) (over i) (drop (suc i) t)) (sym (symbol_at_lem i g))
      ∙ ap (λ x. f i (symbol_at i) (over i) ++ x) (along_over f m (suc i) (over i) refl (omega arith))

  pub tape_over {ℓ} : {A : Type ℓ} (f : ℕ → List ℕ → Stretch → List A) → over_tape f b t ≡ each (λ (k : ℕ). f k (symbol_at k) (over k)) 0 (suc (length t))
  unfolding over
  tape_over f = along_over f (length t) 0 (record { start = 0; end = 0; taken = false }) refl (omega arith)

  -- 1. the walk
  some_test : (i j : ℕ) → i ≤ j → j ≤ length t → T (some_rule b t i j) → Some b t i j
  some_test i j h k x =
      let z = (any_up (candidate b t i j) 0 (length b.words)).0 x in
      let l = z.2 in
      record { rule = z.0; cand = record { ordered = h; inside = k; known = omega arith; holds = z.3 } }

  test_some : (i j : ℕ) → Some b t i j → T (some_rule b t i j)
  test_some i j s = let c = s.cand in (any_up (candidate b t i j) 0 (length b.words)).1 (s.rule, omega arith, let e = c.known in omega arith, c.holds)

  pub longest_low : (i : ℕ) → i ≤ longest b t i
  unfolding longest
  longest_low i = last_low (some_rule b t i) i i (suc (length t) - i) i (omega arith) (omega arith)

  pub longest_high : (i : ℕ) → i ≤ length t → longest b t i ≤ length t
  unfolding longest
  longest_high i h = last_high (some_rule b t i) (length t) i (suc (length t) - i) i h (omega arith)

  -- no stretch goes past the tape's end, and there one can only begin, and be empty
  pub end_inside : (i : ℕ) → i ≤ length t → (over i).end ≤ length t
  end_inside i h =
      let s = stands i in
      omega (arith, ap (λ (d : Stretch). d.end) s.is, longest_high (over i).start (omega (arith, s.low)))

  pub last_start : (over (length t)).start ≡ length t
  last_start = let e = end_inside (length t) (omega arith) in ⊎_elim (λ s. s) (λ h. absurd (omega arith)) (stands (length t)).here

  longest_out : (i : ℕ) → length t < i → longest b t i ≡ i
  unfolding longest
  longest_out i h = let e : suc (length t) - i ≡ 0 = omega arith in rw e

  longest_passes : (i : ℕ) → (longest b t i ≡ i) ⊎ T (some_rule b t i (longest b t i))
  unfolding longest
  longest_passes i = last_passes (some_rule b t i) (up_from i (suc (length t) - i)) i

  pub far_reach : (i j : ℕ) → Some b t i j → j ≤ longest b t i
  unfolding longest
  far_reach i j s =
      let c = s.cand in
      let a = c.ordered in
      let d = c.inside in
      last_reach (some_rule b t i) i (suc (length t) - i) i j a (omega arith) (test_some i j s)

  some_far : (i : ℕ) → i < longest b t i → Some b t i (longest b t i)
  some_far i h =
      let g : i ≤ length t = by_cases (dec_le i (length t)) (λ g. g) (λ g. let e = longest_out i (omega arith) in absurd (omega arith)) in
      some_test i (longest b t i) (omega arith) (longest_high i g) (⊎_elim (λ e. absurd (omega arith)) (λ x. x) (longest_passes i))

  some_best : (i j : ℕ) → Some b t i j → Some b t i (longest b t i)
  some_best i j s =
      let f = far_reach i j s in
      let g = s.cand.ordered in
      by_cases (dec_lt i (longest b t i)) (λ h. some_far i h) (λ h. let e : j ≡ longest b t i = omega arith in subst (Some b t i) e s)

  over_far : (s : ℕ) → (over s).start ≡ s → over s ≡ fresh b t s
  over_far s f = (stands s).is ∙ ap (fresh b t) f

  pub over_mid : (s i : ℕ) → (over s).start ≡ s → s ≤ i → i < longest b t s → over i ≡ over s
  over_mid s i f h k = le_ind (λ (i : ℕ). i < longest b t s → over i ≡ over s) (λ g. refl)
      (λ m g p q. let e = p (omega arith) in let z = ap (λ (d : Stretch). d.end) (e ∙ over_far s f) in over_in m (omega arith) ∙ e) i h k

  pub walk : GreedyWalk (Some b t)
  walk = record {
    Free = λ (i : ℕ). (over i).start ≡ i;
    far = longest b t;
    around = λ i. by_cases (ℕ_discrete (over i).start i) inl (λ n. inr (held i n));
    apart = λ s i f h k g. let e = ap (λ (d : Stretch). d.start) (over_mid s i f (omega arith) k) in omega arith;
    up = λ i j k. k.cand.ordered;
    long = far_reach;
    best = some_best;
    decide = λ i. go i (dec_le i (length t)) (some_rule b t i (longest b t i)) refl;
  }
    where
      held : (i : ℕ) → (over i).start ≢ i → (s : ℕ) × ((over s).start ≡ s) × Some b t s (longest b t s) × (s < i) × (i < longest b t s)
      held i n =
          let d = stands i in
          let l = d.low in
          let e = ap (λ (x : Stretch). x.end) d.is in
          let h : i < (over i).end = ⊎_elim (λ g. absurd (n g)) (λ g. g) d.here in
          ((over i).start, ap (λ (x : Stretch). x.start) d.own, some_far (over i).start (omega arith), omega arith, omega arith)

      go : (i : ℕ) → Dec (i ≤ length t) → (c : Bool) → some_rule b t i (longest b t i) ≡ c → Dec (Some b t i (longest b t i))
      go i (yes h) true e = yes (some_test i (longest b t i) (longest_low i) (longest_high i h) (subst T (sym e) tt))
      go i (yes h) false e = no (λ k. subst T e (test_some i (longest b t i) k))
      go i (no n) c e = no (λ k. let g = k.cand.ordered in let l = k.cand.inside in absurd (n (omega arith)))

  -- 2. contexts and candidates
  -- the context of a stretch
  abbrev pub context : ℕ → ℕ → Context
  context i j = record { u = take i t; v = slice i j t; w = drop j t }

  pub rc_candidate : (c : Context) (r : ℕ) → RC b t r c → T (candidate b t (start c) (end c) r)
  unfolding candidate
  rc_candidate c r x =
      let u = c.u in let v = c.v in let w = c.w in
      rw (take_first u v w t x.whole, slice_second u v w t x.whole, drop_third u v w t x.whole)
      (and_both (b.focus r v && b.left r u) (b.right r w) (and_both (b.focus r v) (b.left r u) x.focus x.left) x.right)

  pub rc_in : (c : Context) (r : ℕ) → t ≡ c.u ++ (c.v ++ c.w) → T (candidate b t (start c) (end c) r) → RC b t r c
  unfolding candidate
  rc_in c r e k =
      let u = c.u in let v = c.v in let w = c.w in
      let F = b.focus r (slice (start c) (end c) t) in let L = b.left r (take (start c) t) in let G = b.right r (drop (end c) t) in
      record {
        left = subst (λ (x : List ℕ). T (b.left r x)) (take_first u v w t e) (and_right F L (and_left (F && L) G k));
        focus = subst (λ (x : List ℕ). T (b.focus r x)) (slice_second u v w t e) (and_left F L (and_left (F && L) G k));
        right = subst (λ (x : List ℕ). T (b.right r x)) (drop_third u v w t e) (and_right (F && L) G k);
        whole = e;
      }

  pub candidate_rc : (i j r : ℕ) → i ≤ j → T (candidate b t i j r) → RC b t r (context i j)
  unfolding candidate
  candidate_rc i j r h k =
      let F = b.focus r (slice i j t) in let L = b.left r (take i t) in let G = b.right r (drop j t) in
      record {
        left = and_right F L (and_left (F && L) G k);
        focus = and_left F L (and_left (F && L) G k);
        right = and_right (F && L) G k;
        whole = parts t i j h;
      }

  pub reads : Reads b t (Some b t)
  reads = record {
    to =
        λ c x. let y = x.context in
        record {
          rule = x.rule;
          cand = record {
            ordered = let e = length-append c.u c.v in
                omega arith;
            inside = end_within c.u c.v c.w t y.whole;
            known = x.known;
            holds = rc_candidate c x.rule y;
          };
        };
    from = λ i j k. let c = k.cand in let h = c.ordered in let l = c.inside in (
      context i j,
      record { rule = k.rule; known = c.known; context = candidate_rc i j k.rule h c.holds },
      length-take-le i t (omega arith),
      end_at t i j h l,
    );
  }

  -- 3. the walk takes the stretch from i to j
  pub record Walked (i j : ℕ) : Type 0 where
    pub free : (over i).start ≡ i
    pub far : j ≡ longest b t i
    pub some : Some b t i j

  is_true : (c : Bool) → T c → c ≡ true
  is_true true x = refl
  is_true false x = absurd x

  pub walked_over : {i j : ℕ} → Walked i j → over i ≡ record { start = i; end = j; taken = true }
  walked_over {i} {j} w =
      over_far i w.free
      ∙ (λ x. record { start = i; end = sym w.far x; taken = some_rule b t i (sym w.far x) })
      ∙ ap (λ (c : Bool). record { start = i; end = j; taken = c }) (is_true (some_rule b t i j) (test_some i j w.some))

  walked_at : {i j : ℕ} → Walked i j → At walk i
  unfolding walk
  walked_at {i} w = record { free = w.free; cand = subst (Some b t i) w.far w.some }

  at_walked : {i : ℕ} → At walk i → Walked i (longest b t i)
  unfolding walk
  at_walked a = record { free = a.free; far = refl; some = a.cand }

  pub among_walked : (i j : ℕ) → TakenAmong (Some b t) i j ↔ Walked i j
  unfolding walk
  among_walked i j = (
    λ x. let z = among_out walk x in
        subst (Walked i) (sym z.1) (at_walked z.0),
    λ w. subst (TakenAmong (Some b t) i) (sym w.far) (among_in walk i (walked_at w)),
  )

  pub lml_walked : (c : Context) → CLML b t c ↔ (C b t c × Walked (start c) (end c))
  unfolding walk
  lml_walked c = (
    λ x. let z = (lml walk b t reads c).0 x in (z.0, record { free = z.1; far = z.2; some = reads.to c z.0 }),
    λ z. (lml walk b t reads c).1 (z.0, z.1.free, z.1.far),
  )

  -- what stands over i: a stretch that began before, one that begins here, or none
  pub data Place (i : ℕ) : Type 0 where
    inside : (s e : ℕ) → Walked s e → s < i → i < e → over i ≡ record { start = s; end = e; taken = true } → Place i
    begins : (e : ℕ) → Walked i e → over i ≡ record { start = i; end = e; taken = true } → Place i
    alone : ((j : ℕ) → Some b t i j → ⊥) → over i ≡ record { start = i; end = i; taken = false } → Place i

  pub place : (i : ℕ) → i ≤ length t → Place i
  place i n = by_cases (ℕ_discrete (over i).start i) (λ f. here f (some_rule b t i (longest b t i)) refl) before
    where
      before : (over i).start ≢ i → Place i
      before g =
          let d = stands i in
          let l = d.low in
          let e = ap (λ (x : Stretch). x.end) d.is in
          let h : i < (over i).end = ⊎_elim (λ z. absurd (g z)) (λ z. z) d.here in
          let s = (over i).start in
          let w : Walked s (longest b t s) = record { free = ap (λ (x : Stretch). x.start) d.own; far = refl; some = some_far s (omega arith) } in
          inside s (longest b t s) w (omega arith) (omega arith) (sym d.own ∙ walked_over w)

      here : (over i).start ≡ i → (c : Bool) → some_rule b t i (longest b t i) ≡ c → Place i
      here f true e =
          let w : Walked i (longest b t i) = record {
            free = f;
            far = refl;
            some = some_test i (longest b t i) (longest_low i) (longest_high i n) (subst T (sym e) tt);
          } in
          begins (longest b t i) w (walked_over w)
      here f false e =
          let q : longest b t i ≡ i = ⊎_elim (λ z. z) (λ x. absurd (subst T e x)) (longest_passes i) in
          alone (λ j s. subst T e (test_some i (longest b t i) (some_best i j s)))
          (over_far i f ∙ (λ x. record { start = i; end = q x; taken = e x }))
