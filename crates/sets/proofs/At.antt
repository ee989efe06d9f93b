-- The table after j pairs as it stands in the slices, and what one turn of the code does to it. Assumes nothing.
use Prim.Native.Nat.{ℕ, zero, suc, ◌+◌, ◌-◌, ◌*◌, ◌/◌, ◌%◌, ◌≤◌, ◌<◌, zero-le}
use mathlib.Core.Path.{◌≡◌, refl, sym, ap, ap₂, ◌∙◌, subst}
use mathlib.Core.List.{List, [], ◌∷◌, ◌++◌}
use native.Mathlib.Omega.{arith}
use lib.ListN.{length, get_or, take, set, length-append, length-set, get_or-eq_default}
use Rattle.book.specs.Format.{symbol_count}
use Rattle.sets.specs.Numbering.{most_sets, pairs, idx, next, run, all, pad}
use Rattle.sets.specs.Sides.{number_in, Clear, Numbered}
use Rattle.sets.specs.Stepping.{NoStepFrom}
use Rattle.sets.proofs.Pad.{take_pad, get_or_pad, get_or_pad_all, set_pad, length_pad}
use native.Mathlib.Numerals.{add-one}
use native.Mathlib.Nat.{add-zero, zero-add, le_of_eq}
use lib.Seq.{get_or-set_other, length-take-le, take-suc-set}
use Rattle.std.proofs.Common.{None, Some}
use Rattle.book.proofs.Idx.{idx_same, idx_snoc}
use Rattle.sets.proofs.Finding.{found, missed_is, found_is}
use Rattle.sets.proofs.Turns.{Turned, idle, old, new, ran, grows, all_more, all_done}

pub record At (f : ℕ → ℕ → ℕ) (s j : ℕ) (R S : List ℕ) (n : ℕ) : Type 0 where
  pub count : n ≡ length (run f s j).sets
  pub small : n ≤ most_sets
  pub room : length S ≡ most_sets
  pub space : length R ≡ pairs
  pub width : length (run f s j).rows ≡ j
  pub sets : S ≡ pad most_sets (run f s j).sets
  pub rows : R ≡ pad pairs (run f s j).rows

module _ (f : ℕ → ℕ → ℕ) (s j : ℕ) (R S : List ℕ) (n : ℕ) (at : At f s j R S n) where
  in_hand : take n S ≡ (run f s j).sets
  in_hand = rw at.sets (take_pad most_sets (run f s j).sets n at.count)

  -- the next entry of the row is 0 still
  pub kept : set R j 0 ≡ R
  kept =
      let e = at.rows in
      ap (λ (l : List ℕ). set l j 0) e ∙ set_zero (pad pairs (run f s j).rows) j (get_or_pad_all pairs (run f s j).rows j
      ∙ get_or-eq_default (run f s j).rows 0 (le_of_eq at.width)) ∙ sym e
    where
      set_zero : (l : List ℕ) (i : ℕ) → get_or l i 0 ≡ 0 → set l i 0 ≡ l
      set_zero [] i e = refl
      set_zero (x ∷ l) zero e = ap (λ (y : ℕ). y ∷ l) (sym e)
      set_zero (x ∷ l) (suc i) e = ap (λ (y : List ℕ). x ∷ y) (set_zero l i e)

  module _ (k a : ℕ) (ej : j ≡ symbol_count * k + a) (ha : a < symbol_count) (hk : k < n) (x m : ℕ) (ex : x ≡ f (get_or S k 0) a) (em : m ≡ idx (take n S) x) where
    is_next : x ≡ next f j (run f s j).sets
    unfolding next
    is_next =
        let e = at.count in
        let ek : k ≡ j / symbol_count = omega arith in
        let ea : a ≡ j % symbol_count = omega arith in
        ex ∙ ap₂ f (rw at.sets (get_or_pad most_sets (run f s j).sets k (omega arith)) ∙ ap (λ (i : ℕ). get_or (run f s j).sets i 0) ek) ea

    is_number : m ≡ idx (run f s j).sets (next f j (run f s j).sets)
    is_number = em ∙ ap₂ idx in_hand is_next

    after : Turned f j (run f s j) (run f s (j + 1))
    after = rw add-one (ran f s j)

    row : (run f s (j + 1)).rows ≡ (run f s j).rows ++ (idx (run f s j).sets (next f j (run f s j).sets) ∷ [])
        → set R j m ≡ pad pairs (run f s (j + 1)).rows
    row er =
        ap (λ (l : List ℕ). set l j m) at.rows
        ∙ set_pad pairs (run f s j).rows j m (sym at.width) (omega (arith, at.small))
        ∙ ap (pad pairs) (ap (λ (y : ℕ). (run f s j).rows ++ (y ∷ [])) is_number ∙ sym er)

    -- a new set
    new_set : m ≡ n → n < most_sets → At f s (j + 1) (set R j m) (set S n x) (n + 1)
    new_set e lt = go after
      where
        go : Turned f j (run f s j) (run f s (j + 1)) → At f s (j + 1) (set R j m) (set S n x) (n + 1)
        go (idle g q) = let z : ⊥ = omega (arith, at.count) in absurd z
        go (old g i es er) = let z : ⊥ = omega (arith, at.count, is_number) in absurd z
        go (new g i es er) =
            record {
              count = omega (arith, at.count, simp length-append at (ap length es));
              small = omega arith;
              room = length-set S n x ∙ at.room;
              space = length-set R j m ∙ at.space;
              width = omega (arith, at.width, simp length-append at (ap length er));
              sets = ap (λ (l : List ℕ). set l n x) at.sets ∙ set_pad most_sets (run f s j).sets n x at.count lt
                  ∙ ap (pad most_sets) (ap (λ (y : ℕ). (run f s j).sets ++ (y ∷ [])) is_next ∙ sym es);
              rows = row er;
            }

    -- a set met before
    old_set : (m ≡ n → ⊥) → At f s (j + 1) (set R j m) S n
    old_set ne = go after
      where
        go : Turned f j (run f s j) (run f s (j + 1)) → At f s (j + 1) (set R j m) S n
        go (idle g q) = let z : ⊥ = omega (arith, at.count) in absurd z
        go (new g i es er) = let z : ⊥ = omega (arith, at.count, is_number) in absurd z
        go (old g i es er) =
            record {
              count = at.count ∙ ap length (sym es);
              small = at.small;
              room = at.room;
              space = length-set R j m ∙ at.space;
              width = omega (arith, at.width, simp length-append at (ap length er));
              sets = at.sets ∙ ap (pad most_sets) (sym es);
              rows = row er;
            }

    -- the 257th
    full : m ≡ n → n ≡ most_sets → most_sets < length (all f s).sets
    full e q = go after
      where
        go : Turned f j (run f s j) (run f s (j + 1)) → most_sets < length (all f s).sets
        go (idle g q) = let z : ⊥ = omega (arith, at.count) in absurd z
        go (old g i es er) = let z : ⊥ = omega (arith, at.count, is_number) in absurd z
        go (new g i es er) = omega (arith, at.count, simp length-append at (ap length es), all_more f s (j + 1) (omega (arith, at.small)))

pub clear_rows_lem : (R S : List ℕ) → Clear R S → length R ≡ pairs
clear_rows_lem R S clear = ap length clear.rows ∙ length_pad pairs [] (omega arith)

pub clear_sets_lem : (R S : List ℕ) → Clear R S → length S ≡ most_sets
clear_sets_lem R S clear = ap length clear.sets ∙ length_pad most_sets [] (omega arith)

-- the table with the first set alone
pub started : (f : ℕ → ℕ → ℕ) (s : ℕ) (R S : List ℕ) → Clear R S → At f s 0 R (set S 0 s) 1
unfolding run
started f s R S clear =
    record {
      count = refl;
      small = omega arith;
      room = length-set S 0 s ∙ clear_sets_lem R S clear;
      space = clear_rows_lem R S clear;
      width = refl;
      sets = ap (λ (l : List ℕ). set l 0 s) clear.sets ∙ set_pad most_sets [] 0 s refl (omega arith);
      rows = clear.rows;
    }

-- every pair is done: the table is whole
pub whole : (f : ℕ → ℕ → ℕ) (s k : ℕ) (R S : List ℕ) (n : ℕ) → At f s (symbol_count * k) R S n → k ≡ n → (n ≤ most_sets) × Numbered (all f s) n R S
whole f s k R S n at e = (at.small, counted)
  where
    counted : Numbered (all f s) n R S
    counted =
        let q : all f s ≡ run f s (symbol_count * k) = all_done f s (symbol_count * k) (omega (arith, at.small)) (omega (arith, at.count)) in
        record {
          over = λ h. absurd (let z : ⊥ = omega (arith, at.small) in z);
          count = λ h. rw q at.count;
          rows = λ h. rw q at.rows;
          sets = λ h. rw q at.sets;
        }

-- the number of the last step's set is at hand: `close` makes the set of a step
module _ (f : ℕ → ℕ → ℕ) (close : ℕ → ℕ) (s : ℕ) where
  -- before row k
  pub record Before (k : ℕ) (R S : List ℕ) (n last number : ℕ) : Type 0 where
    pub at : At f s (symbol_count * k) R S n
    pub reached : k ≤ n
    pub known : Some number ≡ number_in (take n S) (close last)

  -- inside row k, before symbol a: the row has the steps of set k
  pub record In (k a : ℕ) (row R S : List ℕ) (n last number : ℕ) : Type 0 where
    pub at : At f s (symbol_count * k + a) R S n
    pub more : k < n
    pub below : a ≤ symbol_count
    pub here : (i : ℕ) → i < symbol_count → close (get_or row i 0) ≡ f (get_or S k 0) i
    pub known : Some number ≡ number_in (take n S) (close last)

  pub before_first : (R S : List ℕ) (x : ℕ) → Clear R S → x ≡ close 0 → x ≡ s → Before 0 R (set S 0 x) 1 0 0
  before_first R S x clear e q =
      record {
        at = rw q (started f s R S clear);
        reached = omega arith;
        known = rw (take-suc-set S 0 x (omega (arith, clear_sets_lem R S clear))) (found (x ∷ []) (close 0) 0 (omega arith) (idx_same x [] (close 0) e));
      }

  pub in_first : (k : ℕ) (row R S : List ℕ) (n last number : ℕ) → Before k R S n last number → (k ≡ n → ⊥)
      → ((i : ℕ) → i < symbol_count → close (get_or row i 0) ≡ f (get_or S k 0) i) → In k 0 row R S n last number
  in_first k row R S n last number b ne h = record { at = rw add-zero b.at; more = omega (arith, b); below = zero-le; here = h; known = b.known }

  in_last : (k a : ℕ) (row R S : List ℕ) (n last number : ℕ) → In k a row R S n last number → symbol_count ≤ a → Before (k + 1) R S n last number
  in_last k a row R S n last number w h =
      let b = w.below in
      let e : symbol_count * k + a ≡ symbol_count * (k + 1) = omega arith in
      record { at = subst (λ (j : ℕ). At f s j R S n) e w.at; reached = omega (arith, w.more); known = w.known }

  module _ (k a : ℕ) (row R S : List ℕ) (n last number : ℕ) (w : In k a row R S n last number) (ha : a < symbol_count) where
    at_next : (S' : List ℕ) (n' m : ℕ) → At f s (symbol_count * k + a + 1) (set R (symbol_count * k + a) m) S' n'
        → At f s (symbol_count * k + (a + 1)) (set R (symbol_count * k + a) m) S' n'
    at_next S' n' m at =
        let e : symbol_count * k + a + 1 ≡ symbol_count * k + (a + 1) = omega arith in
        subst (λ (j : ℕ). At f s j (set R (symbol_count * k + a) m) S' n') e at

    taken : length (take n S) ≡ n
    taken = length-take-le n S (omega (arith, w.at.small, w.at.room))

    -- a set that was met before: its number is below the most, and is written
    module _ (m : ℕ) (met : Some m ≡ number_in (take n S) (close (get_or row a 0))) where
      pub old_small : m < most_sets
      old_small = omega (arith, w.at.small, taken, (found_is (take n S) (close (get_or row a 0)) m met).1)

      pub in_old : (m' : ℕ) (S' : List ℕ) (n' : ℕ) → m' ≡ m → S' ≡ S → n' ≡ n → In k (a + 1) row (set R (symbol_count * k + a) m') S' n' (get_or row a 0) m'
      in_old m' S' n' e eS en =
          let v = found_is (take n S) (close (get_or row a 0)) m met in
          rw (e, eS, en)
          (record {
            at =
                at_next S n m
                (old_set f s (symbol_count * k + a) R S n w.at k a refl ha w.more (close (get_or row a 0)) m (w.here a ha) v.0
                (λ z. omega (arith, taken, v.1)));
            more = w.more;
            below = omega arith;
            here = w.here;
            known = met;
          })

    -- a new one gets the next number, if that is below the most; and is the 257th else
    module _ (new : None ≡ number_in (take n S) (close (get_or row a 0))) where
      next_number : n ≡ idx (take n S) (close (get_or row a 0))
      next_number = sym (missed_is (take n S) (close (get_or row a 0)) new ∙ taken)

      pub in_new : (x : ℕ) → x ≡ close (get_or row a 0) → n < most_sets → (m' : ℕ) (S' : List ℕ) (n' : ℕ) → m' ≡ n → S' ≡ set S n x → n' ≡ n + 1
          → In k (a + 1) row (set R (symbol_count * k + a) m') S' n' (get_or row a 0) m'
      in_new x ex room m' S' n' e eS en =
          rw (e, eS, en)
          (record {
            at =
                at_next (set S n x) (n + 1) n
                (new_set f s (symbol_count * k + a) R S n w.at k a refl ha w.more x n (ex ∙ w.here a ha) (next_number ∙ ap (idx (take n S)) (sym ex)) refl room);
            more = omega (arith, w.more);
            below = omega arith;
            here = λ i h. w.here i h ∙ ap (λ (z : ℕ). f z i) (sym (get_or-set_other S n k x 0 (omega (arith, w.more))));
            known =
                found (take (n + 1) (set S n x)) (close (get_or row a 0)) n
                (omega (arith, length-take-le (n + 1) (set S n x) (omega (arith, length-set S n x, w.at.room)))) grown;
          })
        where
          grown : idx (take (n + 1) (set S n x)) (close (get_or row a 0)) ≡ n
          grown =
              rw (add-one, take-suc-set S n x (omega (arith, w.at.room)))
              (ap (idx (take n S ++ (x ∷ []))) (sym ex) ∙ idx_snoc (take n S) x (ap (idx (take n S)) ex ∙ sym next_number ∙ sym taken) ∙ taken)

      pub in_full : n ≡ most_sets → most_sets < length (all f s).sets
      in_full q = full f s (symbol_count * k + a) R S n w.at k a refl ha w.more (close (get_or row a 0)) n (w.here a ha) next_number refl q

  -- a symbol without a step leads back to the first set, whose number, 0, stands in the row already
  module _ (first : close 0 ≡ s) (k : ℕ) (row R S : List ℕ) (n last number : ℕ) where
    back_number : (j : ℕ) → At f s j R S n → 0 ≡ idx (take n S) (close 0)
    unfolding run
    back_number j at =
        let g = grows f s 0 j in
        sym (ap₂ idx (in_hand f s j R S n at ∙ ap (λ (i : ℕ). (run f s i).sets) (sym (zero-add j)) ∙ g.1) first ∙ idx_same s g.0 s refl)

    in_none : (a : ℕ) → In k a row R S n last number → a < symbol_count → get_or row a 0 ≡ 0 → In k (a + 1) row R S n last number
    in_none a w h e =
        let m : 0 ≡ idx (take n S) (close (get_or row a 0)) = back_number (symbol_count * k + a) w.at ∙ ap (λ (x : ℕ). idx (take n S) (close x)) (sym e) in
        let met = found (take n S) (close (get_or row a 0)) 0 (omega (arith, w.more, w.at.small, w.at.room, length-take-le n S)) (sym m) in
        let x = in_old k a row R S n last number w h 0 met 0 S n refl refl refl in
        record {
          at = subst (λ (r : List ℕ). At f s (symbol_count * k + (a + 1)) r S n) (kept f s (symbol_count * k + a) R S n w.at) x.at;
          more = w.more;
          below = x.below;
          here = w.here;
          known = w.known;
        }

    in_nones : (d a : ℕ) → a + d ≡ symbol_count → In k a row R S n last number → ((i : ℕ) → a ≤ i → i < symbol_count → get_or row i 0 ≡ 0)
        → In k symbol_count row R S n last number
    in_nones zero a e w h = subst (λ (i : ℕ). In k i row R S n last number) (omega arith) w
    in_nones (suc d) a e w h = in_nones d (a + 1) (omega arith) (in_none a w (omega arith) (h a (omega arith) (omega arith))) (λ i g l. h i (omega arith) l)

    -- so the row is whole where the steps end
    pub in_rest : (a end : ℕ) → In k a row R S n last number → NoStepFrom row end → end ≤ a → Before (k + 1) R S n last number
    in_rest a end w o h =
        in_last k symbol_count row R S n last number
        (in_nones (symbol_count - a) a (omega (arith, w.below)) w (λ i g l. o.none i (omega arith) l)) (omega arith)
