-- The account, empty candidates too: each candidate once and nothing else, in order, with its verdict. Assumes nothing.
use Prim.Native.Nat.{ℕ, suc, ◌+◌, ◌-◌, ◌≤◌, ◌<◌}
use mathlib.Core.List.{List, [], ◌∷◌, map, Memᴰ}
use mathlib.Core.Bool.{Bool}
use mathlib.Core.Path.{◌≡◌, refl, subst, subst₂, sym, ap, ◌∙◌}
use mathlib.Core.Logic.{◌↔◌, by_cases}
use native.Mathlib.Omega.{arith}
use native.Mathlib.Decide.{dec_lt}
use lib.Dec.{T}
use lib.ListN.{length, length-map}
use Rattle.book.specs.Language.{Rules}
use borrow.Author.Tests.{lt-ltb, le-ltb}
use Rattle.stretches.proofs.Lists.{each_none, each_same, each_only, map_each, keep_yes, taken_each, taken_not}
use Rattle.stretches.proofs.Sorting.{lines_from, lines, lines_out, lines_in_lem, lines_sorted, number_in, in_number, sorted_once}
use Rattle.stretches.specs.Candidates.{candidate, keep, rule_of, taken}
use Rattle.stretches.specs.Account.{Line, judge, each, line_for, lines_at, account}
use Rattle.stretches.specs.Sentences.{Candidate, Sorted, Takes, line_number, Judged, Decides, taken_lines, line_of}
use Rattle.stretches.proofs.Walks.{over, tape_over, far_reach, Walked, Place, inside, begins, alone, place}
use Rattle.stretches.proofs.Stretches.{stretch, tk, tk_inside, tk_alone, tk_begins, taken_list, taken_walked, rule_first}
use Rattle.stretches.proofs.Rewritings.{walked_one, walked_apart}

module _ (b : Rules) (t : List ℕ) where
  -- the line of a candidate
  abbrev pub line_at : ℕ → ℕ → ℕ → Line
  line_at i j r = line_for b t i j r (over b t i)

  -- for each start the ends from it on, and for each end the rules
  abbrev found : ℕ → ℕ → ℕ → Bool
  found i j r = candidate b t i j r

  abbrev first_end : ℕ → ℕ
  first_end i = i

  abbrev ends : ℕ → ℕ
  ends i = suc (length t) - i

  abbrev pub all_lines : List Line
  all_lines = lines found line_at first_end ends (suc (length t)) (length b.words)

  pub account_lines : account b t ≡ all_lines
  unfolding account
  account_lines = tape_over b t (lines_at b t)

  account_out : (l : Line) → Memᴰ l (account b t) → (i j r : ℕ) × Candidate b t i j r × (l ≡ line_at i j r)
  account_out l m =
      let z = lines_out found line_at first_end ends (suc (length t)) (length b.words) l (subst (Memᴰ l) account_lines m) in
      let x = z.3 in
      let a = x.start in
      let c = x.high in
      (z.0, z.1, z.2, record { ordered = x.low; inside = omega arith; known = x.known; holds = x.holds }, x.line_is)

  account_in : (i j r : ℕ) → Candidate b t i j r → Memᴰ (line_at i j r) (account b t)
  account_in i j r c =
      let a = c.ordered in
      let d = c.inside in
      subst (Memᴰ (line_at i j r)) (sym account_lines)
      (lines_in_lem found line_at first_end ends (suc (length t)) (length b.words) i j r (line_at i j r)
      (record { start = omega arith; low = a; high = omega arith; known = c.known; holds = c.holds; line_is = refl }))

  -- (a) sound and complete: the lines are those of the candidates
  pub account_candidates : (i j r : ℕ) → Candidate b t i j r ↔ ((l : Line) × Memᴰ l (account b t) × (l.start ≡ i) × (l.end ≡ j) × (l.rule ≡ r))
  account_candidates i j r = (λ c. (line_at i j r, account_in i j r c, refl, refl, refl), out)
    where
      out : (l : Line) × Memᴰ l (account b t) × (l.start ≡ i) × (l.end ≡ j) × (l.rule ≡ r) → Candidate b t i j r
      out z =
          let y = account_out z.0 z.1 in
          let e = y.4 in
          subst (λ (k : ℕ). Candidate b t i j k) (sym (ap (λ (l : Line). l.rule) e) ∙ z.4)
          (subst₂ (λ (p q : ℕ). Candidate b t p q y.2) (sym (ap (λ (l : Line). l.start) e) ∙ z.2) (sym (ap (λ (l : Line). l.end) e) ∙ z.3) y.3)

  -- (b) strictly sorted by start, end, rule
  pub account_sorted : Sorted (account b t)
  account_sorted =
      subst Sorted (sym account_lines) (lines_sorted found line_at first_end ends (suc (length t)) (length b.words)
      (record { start_is = λ i j r. refl; end_is = λ i j r. refl; rule_is = λ i j r. refl }))

  -- (c) the verdicts
  abbrev ruled : ℕ → ℕ → ℕ
  ruled i j = rule_of b t i j

  out : {i j : ℕ} → Takes b t i j → Walked b t i j
  out {i} {j} = (taken_walked b t i j).0

  into : {i j : ℕ} → Walked b t i j → Takes b t i j
  into {i} {j} = (taken_walked b t i j).1

  judged_0 : (i j r : ℕ) → Walked b t i j → r ≡ ruled i j → Judged b t (judge i j r 0 i (ruled i j))
  judged_0 i j r w e = record {
    taken_one = (λ z. (into w, e), λ z. refl);
    shorter = (λ z. absurd (omega arith), λ z. let a = walked_one b t w (out z.1) in let h = z.2 in absurd (omega arith));
    lower_rule = (λ z. absurd (omega arith), λ z. let h = z.1 in absurd (omega arith));
    inside = (λ z. absurd (omega arith), λ z. absurd (walked_apart b t (out z.1) z.2 z.3 w));
    one_of = omega arith;
    deciding_taken = (j, (into w, refl));
    deciding_own = λ z. refl;
    rule_own = λ z. sym e;
    rule_longer = λ z. absurd (omega arith);
    rule_lower = λ z. absurd (omega arith);
    rule_around = λ z. absurd (omega arith);
  }

  judged_1 : (i j r e : ℕ) → Walked b t i e → j < e → Judged b t (judge i j r 1 i (ruled i e))
  judged_1 i j r e w h = record {
    taken_one = (λ z. absurd (omega arith), λ z. let a = walked_one b t w (out z.0) in absurd (omega arith));
    shorter = (λ z. (e, into w, h), λ z. refl);
    lower_rule = (λ z. absurd (omega arith), λ z. let a = walked_one b t w (out z.0) in absurd (omega arith));
    inside = (λ z. absurd (omega arith), λ z. absurd (walked_apart b t (out z.1) z.2 z.3 w));
    one_of = omega arith;
    deciding_taken = (e, (into w, refl));
    deciding_own = λ z. refl;
    rule_own = λ z. absurd (omega arith);
    rule_longer = λ z. (e, (into w, refl), h);
    rule_lower = λ z. absurd (omega arith);
    rule_around = λ z. absurd (omega arith);
  }

  judged_2 : (i j r : ℕ) → Walked b t i j → ruled i j < r → Judged b t (judge i j r 2 i (ruled i j))
  judged_2 i j r w h = record {
    taken_one = (λ z. absurd (omega arith), λ z. let a = z.1 in absurd (omega arith));
    shorter = (λ z. absurd (omega arith), λ z. let a = walked_one b t w (out z.1) in let h = z.2 in absurd (omega arith));
    lower_rule = (λ z. (into w, h), λ z. refl);
    inside = (λ z. absurd (omega arith), λ z. absurd (walked_apart b t (out z.1) z.2 z.3 w));
    one_of = omega arith;
    deciding_taken = (j, (into w, refl));
    deciding_own = λ z. refl;
    rule_own = λ z. absurd (omega arith);
    rule_longer = λ z. absurd (omega arith);
    rule_lower = λ z. ((into w, refl), h);
    rule_around = λ z. absurd (omega arith);
  }

  judged_3 : (i j r s e : ℕ) → Walked b t s e → s < i → i < e → Judged b t (judge i j r 3 s (ruled s e))
  judged_3 i j r s e w h k = record {
    taken_one = (λ z. absurd (omega arith), λ z. absurd (walked_apart b t w h k (out z.0)));
    shorter = (λ z. absurd (omega arith), λ z. absurd (walked_apart b t w h k (out z.1)));
    lower_rule = (λ z. absurd (omega arith), λ z. absurd (walked_apart b t w h k (out z.0)));
    inside = (λ z. (e, into w, h, k), λ z. refl);
    one_of = omega arith;
    deciding_taken = (e, (into w, refl));
    deciding_own = λ z. absurd (omega arith);
    rule_own = λ z. absurd (omega arith);
    rule_longer = λ z. absurd (omega arith);
    rule_lower = λ z. absurd (omega arith);
    rule_around = λ z. (e, (into w, refl), h, k);
  }

  line_3 : (i j r s e : ℕ) → s < i → over b t i ≡ stretch s e → line_at i j r ≡ judge i j r 3 s (ruled s e)
  line_3 i j r s e h o = ap (line_for b t i j r) o ∙ rw (lt-ltb s i h)

  line_1 : (i j r e : ℕ) → j < e → over b t i ≡ stretch i e → line_at i j r ≡ judge i j r 1 i (ruled i e)
  line_1 i j r e h o = ap (line_for b t i j r) o ∙ rw (le-ltb i i (omega arith), lt-ltb j e h)

  line_2 : (i j r : ℕ) → ruled i j < r → over b t i ≡ stretch i j → line_at i j r ≡ judge i j r 2 i (ruled i j)
  line_2 i j r h o = ap (line_for b t i j r) o ∙ rw (le-ltb i i (omega arith), le-ltb j j (omega arith), lt-ltb (ruled i j) r h)

  pub line_0 : (i j r : ℕ) → r ≤ ruled i j → over b t i ≡ stretch i j → line_at i j r ≡ judge i j r 0 i (ruled i j)
  line_0 i j r h o = ap (line_for b t i j r) o ∙ rw (le-ltb i i (omega arith), le-ltb j j (omega arith), le-ltb (ruled i j) r h)

  pub line_judged : (i j r : ℕ) → Candidate b t i j r → Place b t i → Judged b t (line_at i j r)
  line_judged i j r c (inside s e w h k o) = subst (Judged b t) (sym (line_3 i j r s e h o)) (judged_3 i j r s e w h k)
  line_judged i j r c (begins e w o) =
      let f = far_reach b t i j (record { rule = r; cand = c }) in
      let g = w.far in
      by_cases (dec_lt j e) (λ h. subst (Judged b t) (sym (line_1 i j r e h o)) (judged_1 i j r e w h))
      (λ h. let q : e ≡ j = omega arith in
      let v = subst (Walked b t i) q w in
      let p = o ∙ ap (stretch i) q in
      let l = (rule_first b t i j (record { rule = r; cand = c })).least r (omega arith) c.holds in
      by_cases (dec_lt (ruled i j) r) (λ k. subst (Judged b t) (sym (line_2 i j r k p)) (judged_2 i j r v k))
      (λ k. let d : r ≡ ruled i j = omega arith in subst (Judged b t) (sym (line_0 i j r (omega arith) p)) (judged_0 i j r v d)))
  line_judged i j r c (alone m o) = absurd (m j (record { rule = r; cand = c }))

  pub account_judged : (l : Line) → Memᴰ l (account b t) → Judged b t l
  account_judged l m =
      let z = account_out l m in
      subst (Judged b t) (sym z.4) (line_judged z.0 z.1 z.2 z.3
      (place b t z.0 (let p = z.3.ordered in let q = z.3.inside in omega arith)))

  -- (d) the lines with verdict 0 are the taken stretches in order
  abbrev from : ℕ → List Line
  from = lines_from found line_at first_end ends (suc (length t)) (length b.words)

  zero_one : (i j r : ℕ) → i ≤ j → j < i + (suc (length t) - i) → r < length b.words → i ≤ length t → T (candidate b t i j r) → (line_at i j r).verdict ≡ 0
      → Walked b t i j × (r ≡ ruled i j)
  zero_one i j r h k g n c v =
      let z = (line_judged i j r (record { ordered = h; inside = omega arith; known = g; holds = c }) (place b t i n)).taken_one.0 v in
      (out z.0, z.1)

  none_at : (i : ℕ) → i ≤ length t → ((j : ℕ) → Walked b t i j → ⊥) → taken_lines (from i) ≡ []
  none_at i n h =
      taken_each (λ (j : ℕ). each (λ (r : ℕ). keep (candidate b t i j r) (line_at i j r)) 0 (length b.words)) i (suc (length t) - i)
      ∙ each_none (λ (j : ℕ). taken_lines (each (λ (r : ℕ). keep (candidate b t i j r) (line_at i j r)) 0 (length b.words))) i (suc (length t) - i) (λ j p q.
      taken_each (λ (r : ℕ). keep (candidate b t i j r) (line_at i j r)) 0 (length b.words)
      ∙ each_none (λ (r : ℕ). taken_lines (keep (candidate b t i j r) (line_at i j r))) 0 (length b.words) (λ r u v.
      taken_not (candidate b t i j r) (line_at i j r) (λ c x. h j (zero_one i j r p q (omega arith) n c x).0)))

  one_at : (i e : ℕ) → i ≤ length t → Walked b t i e → over b t i ≡ stretch i e → taken_lines (from i) ≡ line_of b t (stretch i e) ∷ []
  one_at i e n w o =
      let c = w.some in
      let a = c.cand.ordered in
      let d = c.cand.inside in
      let R = rule_first b t i e c in
      let k = R.high in
      taken_each (λ (j : ℕ). each (λ (r : ℕ). keep (candidate b t i j r) (line_at i j r)) 0 (length b.words)) i (suc (length t) - i)
      ∙ each_only (λ (j : ℕ). taken_lines (each (λ (r : ℕ). keep (candidate b t i j r) (line_at i j r)) 0 (length b.words))) i (suc (length t) - i) e a
      (omega arith) (λ j p q x.
      taken_each (λ (r : ℕ). keep (candidate b t i j r) (line_at i j r)) 0 (length b.words)
      ∙ each_none (λ (r : ℕ). taken_lines (keep (candidate b t i j r) (line_at i j r))) 0 (length b.words) (λ r u v.
      taken_not (candidate b t i j r) (line_at i j r) (λ y z. x (walked_one b t (zero_one i j r p q (omega arith) n y z).0 w))))
      ∙ taken_each (λ (r : ℕ). keep (candidate b t i e r) (line_at i e r)) 0 (length b.words)
      ∙ each_only (λ (r : ℕ). taken_lines (keep (candidate b t i e r) (line_at i e r))) 0 (length b.words) (ruled i e) (omega arith) k (λ r u v x.
      taken_not (candidate b t i e r) (line_at i e r) (λ y z. x (zero_one i e r a (omega arith) (omega arith) n y z).1))
      ∙ ap (λ (l : Line). taken_lines (keep (candidate b t i e (ruled i e)) l)) (line_0 i e (ruled i e) (omega arith) o)
      ∙ ap taken_lines (keep_yes (candidate b t i e (ruled i e)) (line_of b t (stretch i e)) R.passes)

  lines_at_lem : (i : ℕ) → i ≤ length t → Place b t i → taken_lines (from i) ≡ map (line_of b t) (tk b t i)
  lines_at_lem i n (inside s e w h k o) = none_at i n (λ j v. walked_apart b t w h k v) ∙ ap (map (line_of b t)) (sym (tk_inside b t i s e h o))
  lines_at_lem i n (begins e w o) = one_at i e n w o ∙ ap (map (line_of b t)) (sym (tk_begins b t i e o))
  lines_at_lem i n (alone m o) = none_at i n (λ j v. m j v.some) ∙ ap (map (line_of b t)) (sym (tk_alone b t i o))

  pub account_taken : taken_lines (account b t) ≡ map (line_of b t) (taken b t)
  account_taken =
      ap taken_lines account_lines
      ∙ taken_each from 0 (suc (length t))
      ∙ each_same (λ (i : ℕ). taken_lines (from i)) (λ (i : ℕ). map (line_of b t) (tk b t i)) 0 (suc (length t))
      (λ i h k. let g : i ≤ length t = omega arith in lines_at_lem i g (place b t i g))
      ∙ sym (map_each (line_of b t) (tk b t) 0 (suc (length t)))
      ∙ ap (map (line_of b t)) (sym (taken_list b t))

  -- as many lines with verdict 0 as stretches are taken
  pub account_count : length (taken_lines (account b t)) ≡ length (taken b t)
  account_count = ap length account_taken ∙ length-map (taken b t) (line_of b t)

  -- (e) the stretch that decides a line has a line of its own, marked 0, and no other line marked 0 starts there
  taken_listed : (i j : ℕ) → Walked b t i j → (l : Line) × Memᴰ l (account b t) × (l.start ≡ i) × (l.rule ≡ ruled i j) × (l.verdict ≡ 0)
  taken_listed i j w =
      let f = rule_first b t i j w.some in
      let a = w.some.cand in
      let k = f.high in
      let m = account_in i j (ruled i j) (record { ordered = a.ordered; inside = a.inside; known = omega arith; holds = f.passes }) in
      (line_at i j (ruled i j), m, refl, refl, (account_judged (line_at i j (ruled i j)) m).taken_one.1 (into w, refl))

  -- a taken start has one line marked 0
  abbrev numbered : ℕ → Line
  numbered = line_number (account b t)

  pub marked_once : (j k : ℕ) → j < length (account b t) → k < length (account b t) → (numbered j).verdict ≡ 0 → (numbered k).verdict ≡ 0
      → (numbered j).start ≡ (numbered k).start → j ≡ k
  marked_once j k h g u v e =
      let x = (account_judged (numbered j) (number_in (account b t) j h)).taken_one.0 u in
      let y = (account_judged (numbered k) (number_in (account b t) k g)).taken_one.0 v in
      let f = walked_one b t (out (subst (λ (i : ℕ). Takes b t i (numbered j).end) e x.0)) (out y.0) in
      sorted_once (account b t) account_sorted j k h g (record { start = e; end = f; rule = x.1 ∙ (λ i. ruled (e i) (f i)) ∙ sym y.1 })

  pub account_decided : (l : Line) → Memᴰ l (account b t) → (k : ℕ) × Decides (account b t) l k
  account_decided l m =
      let d = (account_judged l m).deciding_taken in
      let z = taken_listed l.deciding d.0 (out d.1.0) in
      let n = in_number (account b t) z.0 z.1 in
      let e = n.2 in (
        n.0,
        record {
          within = n.1;
          marked = ap (λ (x : Line). x.verdict) e ∙ z.4;
          start = ap (λ (x : Line). x.start) e ∙ z.2;
          rule = ap (λ (x : Line). x.rule) e ∙ z.3 ∙ sym d.1.1;
        },
      )

  pub decided_once : (l : Line) (j k : ℕ) → Decides (account b t) l j → Decides (account b t) l k → j ≡ k
  decided_once l j k x y = marked_once j k x.within y.within x.marked y.marked (x.start ∙ sym y.start)
