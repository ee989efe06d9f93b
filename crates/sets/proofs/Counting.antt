-- The laws of the numbering over any step: its entries, walking the rows along a tape from either end, no set twice, and exactly the
-- different sets over all tapes. Assumes nothing.
use Prim.Native.Nat.{ℕ, zero, suc, ◌+◌, ◌*◌, ◌/◌, ◌%◌, ◌≤◌, ◌<◌, min, zero-le, suc-le-suc}
use mathlib.Core.Path.{◌≡◌, refl, sym, ap, ap₂, ◌∙◌, subst}
use mathlib.Core.Bool.{true, false}
use mathlib.Core.List.{List, [], ◌∷◌, ◌++◌}
use native.Mathlib.Omega.{arith}
use native.Mathlib.Decide.{dec_lt, ℕ_discrete}
use lib.Dec.{eqb}
use lib.ListN.{length, get_or, length-append, get_or-append}
use lib.Seq.{get_or_at}
use borrow.Author.Tests.{eq-eqb, ne_eqb}
use Rattle.book.specs.Format.{symbol_count}
use Rattle.sets.specs.Sets.{after, before}
use Rattle.sets.specs.Numbering.{most_sets, pairs, idx, Table, entry, next, run, all}
use Rattle.sets.specs.Tables.{Tape}
use Rattle.sets.specs.Counting.{Reached, Distinct, Exactly, MoreThan}
use Rattle.book.proofs.Idx.{by_eq, idx_same, idx_other, idx_at, idx_append, idx_snoc, idx_in}
use Rattle.sets.proofs.Turns.{Turned, idle, old, new, ran, grows}

-- one x taken out of S
del : List ℕ → ℕ → List ℕ
del [] x = []
del (y ∷ S) x = elim (eqb y x) [ true ↦ S | false ↦ y ∷ del S x ]

del_same : (y : ℕ) (S : List ℕ) (x : ℕ) → y ≡ x → del (y ∷ S) x ≡ S
unfolding del
del_same y S x e = rw (eq-eqb y x e, del)

del_other : (y : ℕ) (S : List ℕ) (x : ℕ) → (y ≡ x → ⊥) → del (y ∷ S) x ≡ y ∷ del S x
unfolding del
del_other y S x e = rw (ne_eqb y x e, del)

length_del : (S : List ℕ) (x : ℕ) → idx S x < length S → length (del S x) + 1 ≡ length S
length_del [] x h = let z : ⊥ = omega arith in absurd z
length_del (y ∷ S) x h =
    by_eq _ y x (λ e. rw (del_same y S x e) (omega arith))
    (λ ne. let r = length_del S x (omega (arith, idx_other y S x ne)) in rw (del_other y S x ne) (omega arith)) (ℕ_discrete y x)

-- what is in S and is not x is still there
in_del : (S : List ℕ) (x v : ℕ) → (v ≡ x → ⊥) → idx S v < length S → idx (del S x) v < length (del S x)
in_del [] x v ne h = let z : ⊥ = omega arith in absurd z
in_del (y ∷ S) x v ne h =
    by_eq _ y x
    (λ e. rw (del_same y S x e) (omega (arith, idx_other y S v (λ q. ne (sym q ∙ e)))))
    (λ nx. rw (del_other y S x nx)
    (by_eq _ y v (λ e. rw (idx_same y (del S x) v e) (suc-le-suc zero-le))
    (λ nv. rw (idx_other y (del S x) v nv) (suc-le-suc (in_del S x v ne (omega (arith, idx_other y S v nv))))) (ℕ_discrete y v)))
    (ℕ_discrete y x)

-- different numbers that all stand in S are no more than S has
pigeon : (L S : List ℕ) → Distinct L → ((i : ℕ) → i < length L → idx S (get_or L i 0) < length S) → length L ≤ length S
pigeon [] S d h = zero-le
pigeon (x ∷ L) S d h =
    let hx : idx S x < length S = h 0 (suc-le-suc zero-le) in
    let p = pigeon L (del S x) (record { once = λ i j hi hj e. omega (arith, d.once (suc i) (suc j) (suc-le-suc hi) (suc-le-suc hj) e) })
    (λ i hi. in_del S x (get_or L i 0)
    (λ e. let z = d.once (suc i) 0 (suc-le-suc hi) (suc-le-suc zero-le) e in let w : ⊥ = omega arith in w) (h (suc i) (suc-le-suc hi))) in
    omega (arith, length_del S x hx)

-- the set over a tape by the step f: the first set for the empty tape, and one step with each symbol, from either end
pub record Stepped (f : ℕ → ℕ → ℕ) (s : ℕ) (over : List ℕ → ℕ) : Type 1 where
  pub empty : Reached over s
  pub more : (x a : ℕ) → Reached over x → a < symbol_count → Reached over (f x a)
  pub only : (P : ℕ → Type 0) → P s → ((x a : ℕ) → P x → a < symbol_count → P (f x a)) → (w : List ℕ) → Tape w → P (over w)

module _ (f : ℕ → ℕ → ℕ) where
  pub after_snoc : (z : ℕ) (w : List ℕ) (a : ℕ) → after f z (w ++ (a ∷ [])) ≡ f (after f z w) a
  after_snoc z [] a = refl
  after_snoc z (b ∷ w) a = after_snoc (f z b) w a

  tape_snoc : (w : List ℕ) (a : ℕ) → Tape w → a < symbol_count → Tape (w ++ (a ∷ []))
  tape_snoc [] a t h = (h, tt)
  tape_snoc (b ∷ w) a t h = (t.0, tape_snoc w a t.1 h)

  after_only : (P : ℕ → Type 0) → ((x a : ℕ) → P x → a < symbol_count → P (f x a)) → (z : ℕ) → P z → (w : List ℕ) → Tape w → P (after f z w)
  after_only P k z p [] t = p
  after_only P k z p (a ∷ w) t = after_only P k (f z a) (k z a p t.0) w t.1

  before_only : (P : ℕ → Type 0) → ((x a : ℕ) → P x → a < symbol_count → P (f x a)) → (z : ℕ) → P z → (w : List ℕ) → Tape w → P (before z f w)
  before_only P k z p [] t = p
  before_only P k z p (a ∷ w) t = k (before z f w) a (before_only P k z p w t.1) t.0

  pub front : (s : ℕ) → Stepped f s (after f s)
  front s =
      record {
        empty = record { word = []; tape = tt; ends = refl };
        more = λ x a r h. record {
          word = r.word ++ (a ∷ []);
          tape = tape_snoc r.word a r.tape h;
          ends = after_snoc s r.word a ∙ ap (λ (y : ℕ). f y a) r.ends;
        };
        only = λ P p k w t. after_only P k s p w t;
      }

  pub end : (s : ℕ) → Stepped f s (before s f)
  end s =
      record {
        empty = record { word = []; tape = tt; ends = refl };
        more = λ x a r h. record { word = a ∷ r.word; tape = (h, r.tape); ends = ap (λ (y : ℕ). f y a) r.ends };
        only = λ P p k w t. before_only P k s p w t;
      }

-- what holds of the table after j pairs
record Good (f : ℕ → ℕ → ℕ) (s j : ℕ) (t : Table) : Type 0 where
  width : length t.rows ≡ min j (symbol_count * length t.sets)
  distinct : Distinct t.sets
  known : (i : ℕ) → i < length t.rows → idx t.sets (next f i t.sets) < length t.sets
  entered : (i : ℕ) → i < length t.rows → get_or t.rows i 0 ≡ idx t.sets (next f i t.sets)

-- one place more: below it, or there
last_or : (P : Type 0) (n i : ℕ) → i < n + 1 → (i < n → P) → (i ≡ n → P) → P
last_or P n i h a b = by (dec_lt i n)
  where
    by : Dec (i < n) → P
    by (yes l) = a l
    by (no l) = b (omega arith)

next_pair : (f : ℕ → ℕ → ℕ) (S : List ℕ) (k a : ℕ) → a < symbol_count → next f (symbol_count * k + a) S ≡ f (get_or S k 0) a
unfolding next
next_pair f S k a h =
    let ek : (symbol_count * k + a) / symbol_count ≡ k = omega arith in
    let ea : (symbol_count * k + a) % symbol_count ≡ a = omega arith in
    ap₂ f (ap (λ (i : ℕ). get_or S i 0) ek) ea

table : {u : Table} {S R : List ℕ} → u.sets ≡ S → u.rows ≡ R → u ≡ record { sets = S; rows = R }
table es er = λ i. record { sets = es i; rows = er i }

next_append : (f : ℕ → ℕ → ℕ) (i : ℕ) (S T : List ℕ) → i < symbol_count * length S → next f i (S ++ T) ≡ next f i S
unfolding next
next_append f i S T h = ap (λ (y : ℕ). f y (i % symbol_count)) (get_or-append S T 0 (i / symbol_count) (omega arith))

distinct_snoc : (S : List ℕ) (x : ℕ) → Distinct S → idx S x ≡ length S → Distinct (S ++ (x ∷ []))
distinct_snoc S x d h = record { once = λ i j hi hj e. once i j hi hj e (dec_lt i (length S)) (dec_lt j (length S)) }
  where
    longer : length (S ++ (x ∷ [])) ≡ length S + 1
    longer = length-append S (x ∷ [])

    once : (i j : ℕ) → i < length (S ++ (x ∷ [])) → j < length (S ++ (x ∷ [])) → get_or (S ++ (x ∷ [])) i 0 ≡ get_or (S ++ (x ∷ [])) j 0
        → Dec (i < length S) → Dec (j < length S) → i ≡ j
    once i j hi hj e (yes a) (yes b) = d.once i j a b (sym (get_or-append S _ 0 i a) ∙ e ∙ get_or-append S _ 0 j b)
    once i j hi hj e (yes a) (no b) =
        let q : j ≡ length S = omega (arith, longer) in
        let l = idx_in S x i a (sym (get_or-append S _ 0 i a) ∙ e ∙ get_or_at S x [] 0 j (sym q)) in
        let z : ⊥ = omega arith in absurd z
    once i j hi hj e (no a) (yes b) =
        let q : i ≡ length S = omega (arith, longer) in
        let l = idx_in S x j b (sym (get_or-append S _ 0 j b) ∙ sym e ∙ get_or_at S x [] 0 i (sym q)) in
        let z : ⊥ = omega arith in absurd z
    once i j hi hj e (no a) (no b) = omega (arith, longer)

module _ (f : ℕ → ℕ → ℕ) (s : ℕ) where
  good_start : Good f s 0 (run f s 0)
  unfolding run
  good_start =
      record {
        width = omega arith;
        distinct = record { once = λ i j hi hj e. omega arith };
        known = λ i h. let z : ⊥ = omega arith in absurd z;
        entered = λ i h. let z : ⊥ = omega arith in absurd z;
      }

  module _ (j : ℕ) (S R : List ℕ) (g : Good f s j (record { sets = S; rows = R })) (go : j < symbol_count * length S) where
    wide : length R ≡ j
    wide = omega (arith, g.width)

    good_old : idx S (next f j S) < length S → Good f s (suc j) (record { sets = S; rows = R ++ (idx S (next f j S) ∷ []) })
    good_old h =
        record {
          width = omega (arith, wide, length-append R (idx S (next f j S) ∷ []));
          distinct = g.distinct;
          known = λ i l. last_or _ (length R) i (omega (arith, length-append R (idx S (next f j S) ∷ []))) (λ q. g.known i q)
              (λ q. subst (λ (k : ℕ). idx S (next f k S) < length S) (sym (q ∙ wide)) h);
          entered = λ i l. last_or _ (length R) i (omega (arith, length-append R (idx S (next f j S) ∷ [])))
              (λ q. get_or-append R _ 0 i q ∙ g.entered i q)
              (λ q. get_or_at R _ [] 0 i (sym q) ∙ ap (λ (k : ℕ). idx S (next f k S)) (sym (q ∙ wide)));
        }

    good_new : idx S (next f j S) ≡ length S → Good f s (suc j) (record { sets = S ++ (next f j S ∷ []); rows = R ++ (idx S (next f j S) ∷ []) })
    good_new h =
        record {
          width = omega (arith, wide, longer, length-append R (idx S (next f j S) ∷ []));
          distinct = distinct_snoc S (next f j S) g.distinct h;
          known = λ i l. last_or _ (length R) i (omega (arith, length-append R (idx S (next f j S) ∷ [])))
              (λ q. omega (arith, same i q, longer, g.known i q))
              (λ q. subst (λ (k : ℕ). idx S' (next f k S') < length S') (sym (q ∙ wide)) (omega (arith, last, longer)));
          entered = λ i l. last_or _ (length R) i (omega (arith, length-append R (idx S (next f j S) ∷ [])))
              (λ q. get_or-append R _ 0 i q ∙ g.entered i q ∙ sym (same i q))
              (λ q. get_or_at R _ [] 0 i (sym q) ∙ h ∙ sym last ∙ ap (λ (k : ℕ). idx S' (next f k S')) (sym (q ∙ wide)));
        }
      where
        S' : List ℕ
        S' = S ++ (next f j S ∷ [])

        longer : length S' ≡ length S + 1
        longer = length-append S (next f j S ∷ [])

        stays : (i : ℕ) → i < symbol_count * length S → next f i S' ≡ next f i S
        stays i l = next_append f i S (next f j S ∷ []) l

        same : (i : ℕ) → i < length R → idx S' (next f i S') ≡ idx S (next f i S)
        same i q = ap (idx S') (stays i (omega (arith, wide))) ∙ idx_append S _ _ (g.known i q)

        last : idx S' (next f j S') ≡ length S
        last = ap (idx S') (stays j go) ∙ idx_snoc S (next f j S) h

  good_turn : (j : ℕ) (t u : Table) → Good f s j t → Turned f j t u → Good f s (suc j) u
  good_turn j t u g (idle h e) =
      rw e
      (record {
        width = omega (arith, g.width);
        distinct = g.distinct;
        known = g.known;
        entered = g.entered;
      })
  good_turn j t u g (old h i es er) = subst (Good f s (suc j)) (sym (table es er)) (good_old j t.sets t.rows g h i)
  good_turn j t u g (new h i es er) = subst (Good f s (suc j)) (sym (table es er)) (good_new j t.sets t.rows g h i)

  good : (j : ℕ) → Good f s j (run f s j)
  good zero = good_start
  good (suc j) = good_turn j (run f s j) (run f s (suc j)) (good j) (ran f s j)

  good_all : Good f s pairs (all f s)
  unfolding all
  good_all = good pairs

  run_zero : (run f s 0).sets ≡ s ∷ []
  unfolding run
  run_zero = refl

  first_of : (S : List ℕ) → ((T : List ℕ) × (S ≡ s ∷ T)) → (0 < length S) × (get_or S 0 0 ≡ s)
  first_of S e = rw e.1 (suc-le-suc zero-le, refl)

  pub law_first : (0 < length (all f s).sets) × (get_or (all f s).sets 0 0 ≡ s)
  unfolding all
  law_first =
      let g = grows f s 0 pairs in
      first_of (run f s pairs).sets (g.0, g.1 ∙ ap (λ (l : List ℕ). l ++ g.0) run_zero)

  -- no set has two numbers
  pub law_distinct : Distinct (all f s).sets
  law_distinct = good_all.distinct

  -- at most 256 sets: the rows are whole, and entry a of row k is the number of the set after set k and symbol a
  module _ (fits : length (all f s).sets ≤ most_sets) where
    pub law_width : length (all f s).rows ≡ symbol_count * length (all f s).sets
    law_width = omega (arith, good_all.width)

    pub law_below : (k a : ℕ) → k < length (all f s).sets → a < symbol_count → entry (all f s).rows k a < length (all f s).sets
    law_below k a hk ha =
        let h : symbol_count * k + a < length (all f s).rows = omega (arith, law_width) in
        omega (arith, good_all.known (symbol_count * k + a) h, good_all.entered (symbol_count * k + a) h)

    pub law_entry : (k a : ℕ) → k < length (all f s).sets → a < symbol_count
        → get_or (all f s).sets (entry (all f s).rows k a) 0 ≡ f (get_or (all f s).sets k 0) a
    law_entry k a hk ha =
        let h : symbol_count * k + a < length (all f s).rows = omega (arith, law_width) in
        ap (λ (i : ℕ). get_or (all f s).sets i 0) (good_all.entered (symbol_count * k + a) h)
        ∙ idx_at (all f s).sets _ (good_all.known (symbol_count * k + a) h)
        ∙ next_pair f (all f s).sets k a ha

-- the sets over all tapes
module _ (f : ℕ → ℕ → ℕ) (s : ℕ) (over : List ℕ → ℕ) (o : Stepped f s over) where
  AllReached : List ℕ → Type 0
  AllReached S = (k : ℕ) → k < length S → Reached over (get_or S k 0)

  reached_next : (j : ℕ) (S : List ℕ) → Reached over (get_or S (j / symbol_count) 0) → Reached over (next f j S)
  unfolding next
  reached_next j S r = o.more _ (j % symbol_count) r (omega arith)

  reached_turn : (j : ℕ) (t u : Table) → AllReached t.sets → Turned f j t u → AllReached u.sets
  unfolding AllReached
  reached_turn j t u r (idle h e) = rw e r
  reached_turn j t u r (old h i es er) = rw es r
  reached_turn j t u r (new h i es er) = rw es (λ k l. last_or _ (length t.sets) k (omega (arith, length-append t.sets (next f j t.sets ∷ [])))
      (λ q. rw (get_or-append t.sets (next f j t.sets ∷ []) 0 k q) (r k q))
      (λ q. rw (get_or_at t.sets (next f j t.sets) [] 0 k (sym q)) (reached_next j t.sets (r (j / symbol_count) (omega arith)))))

  reached_run : (j : ℕ) → AllReached (run f s j).sets
  unfolding run AllReached
  reached_run zero = λ k h. one k h
    where
      one : (k : ℕ) → k < 1 → Reached over (get_or (s ∷ []) k 0)
      one zero h = o.empty
      one (suc k) h = let z : ⊥ = omega arith in absurd z
  reached_run (suc j) = reached_turn j (run f s j) (run f s (suc j)) (reached_run j) (ran f s j)

  -- every numbered set is the set over some tape
  pub law_reached : (k : ℕ) → k < length (all f s).sets → Reached over (get_or (all f s).sets k 0)
  unfolding all AllReached
  law_reached = reached_run pairs

  -- at most 256: every set over a tape has a number, and the count is exactly the number of different sets over all tapes
  module _ (fits : length (all f s).sets ≤ most_sets) where
    pub law_every : (w : List ℕ) → Tape w → (i : ℕ) × (i < length (all f s).sets) × (get_or (all f s).sets i 0 ≡ over w)
    law_every =
        o.only (λ (x : ℕ). (i : ℕ) × (i < length (all f s).sets) × (get_or (all f s).sets i 0 ≡ x))
        (0, (law_first f s).0, (law_first f s).1)
        (λ x a p h. (
          entry (all f s).rows p.0 a,
          law_below f s fits p.0 a p.1 h,
          law_entry f s fits p.0 a p.1 h ∙ ap (λ (y : ℕ). f y a) p.2,
        ))

    pub law_exactly : Exactly over (length (all f s).sets)
    law_exactly = record { list = (all f s).sets; size = refl; distinct = law_distinct f s; reached = law_reached; every = law_every }

    known : (x : ℕ) → Reached over x → idx (all f s).sets x < length (all f s).sets
    known x r =
        let q = law_every r.word r.tape in
        omega (arith, q.1, idx_in (all f s).sets x q.0 q.1 (q.2 ∙ r.ends))

  -- the numbering goes past 256 exactly when there are more than 256 different sets over all tapes
  pub law_many : most_sets < length (all f s).sets → MoreThan over most_sets
  law_many h = record { list = (all f s).sets; many = h; distinct = law_distinct f s; reached = law_reached }

  pub law_few : MoreThan over most_sets → most_sets < length (all f s).sets
  law_few m = by (dec_lt most_sets (length (all f s).sets))
    where
      by : Dec (most_sets < length (all f s).sets) → most_sets < length (all f s).sets
      by (yes h) = h
      by (no h) =
          let fits : length (all f s).sets ≤ most_sets = omega arith in
          let p = pigeon m.list (all f s).sets m.distinct (λ i l. known fits (get_or m.list i 0) (m.reached i l)) in
          omega (arith, m.many)

-- a side by its numbers: n of them, e the next number after a symbol, g the set of a number
pub record Half (f : ℕ → ℕ → ℕ) (s n : ℕ) (e : ℕ → ℕ → ℕ) (g : ℕ → ℕ) : Type 0 where
  pub some : 0 < n
  pub first : g 0 ≡ s
  pub below : (k a : ℕ) → k < n → a < symbol_count → e k a < n
  pub step : (k a : ℕ) → k < n → a < symbol_count → g (e k a) ≡ f (g k) a
  pub once : (i j : ℕ) → i < n → j < n → g i ≡ g j → i ≡ j

-- wherever the rows and the sets of a table stand
pub half : (f : ℕ → ℕ → ℕ) (s n : ℕ) (e : ℕ → ℕ → ℕ) (g : ℕ → ℕ) → n ≡ length (all f s).sets → n ≤ most_sets
    → ((k a : ℕ) → k < n → a < symbol_count → e k a ≡ entry (all f s).rows k a) → ((k : ℕ) → k < n → g k ≡ get_or (all f s).sets k 0) → Half f s n e g
half f s n e g q few he hg =
    record {
      some = some;
      first = hg 0 some ∙ (law_first f s).1;
      below = below;
      step = λ k a h l. hg (e k a) (below k a h l) ∙ ap (λ (i : ℕ). get_or (all f s).sets i 0) (he k a h l)
          ∙ law_entry f s fits k a (omega arith) l ∙ ap (λ (x : ℕ). f x a) (sym (hg k h));
      once = λ i j h l p. (law_distinct f s).once i j (omega arith) (omega arith) (sym (hg i h) ∙ p ∙ hg j l);
    }
  where
    fits : length (all f s).sets ≤ most_sets
    fits = omega arith

    some : 0 < n
    some = omega (arith, (law_first f s).0)

    below : (k a : ℕ) → k < n → a < symbol_count → e k a < n
    below k a h l = omega (arith, he k a h l, law_below f s fits k a (omega arith) l)

-- walking by the next numbers gives the number of the set over the tape: from the front, and from the end
module _ (f : ℕ → ℕ → ℕ) (s n : ℕ) (e : ℕ → ℕ → ℕ) (g : ℕ → ℕ) (h : Half f s n e g) where
  walks : (k z : ℕ) (w : List ℕ) → k < n → g k ≡ z → Tape w → (after e k w < n) × (g (after e k w) ≡ after f z w)
  walks k z [] hk q t = (hk, q)
  walks k z (a ∷ w) hk q t = walks (e k a) (f z a) w (h.below k a hk t.0) (h.step k a hk t.0 ∙ ap (λ (y : ℕ). f y a) q) t.1

  pub walk_front : (w : List ℕ) → Tape w → (after e 0 w < n) × (g (after e 0 w) ≡ after f s w)
  walk_front w t = walks 0 s w h.some h.first t

  pub walk_end : (w : List ℕ) → Tape w → (before 0 e w < n) × (g (before 0 e w) ≡ before s f w)
  walk_end [] t = (h.some, h.first)
  walk_end (a ∷ w) t =
      let q = walk_end w t.1 in
      (h.below _ a q.0 t.0, h.step _ a q.0 t.0 ∙ ap (λ (y : ℕ). f y a) q.1)

-- in a list without repeats what stands at a place has that number
pub idx_distinct : (S : List ℕ) (i : ℕ) → Distinct S → i < length S → idx S (get_or S i 0) ≡ i
idx_distinct S i d h =
    let l = idx_in S (get_or S i 0) i h refl in
    let b : idx S (get_or S i 0) < length S = omega arith in
    d.once _ _ b h (idx_at S (get_or S i 0) b)
