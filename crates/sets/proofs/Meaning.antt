-- The sets along a tape: how they are found, one position after the other, and what they hold, in document 01's words and as the tests
-- that decide where a rule applies. For every sound book, which every accepted book is, and every tape. Assumes nothing.
use Prim.Native.Nat.{ℕ, suc, ◌+◌, ◌≤◌, ◌<◌}
use mathlib.Core.List.{List, [], ◌∷◌, ◌++◌, append_assoc}
use mathlib.Core.Bool.{Bool, false, cond, not, ◌&&◌, ◌||◌}
use mathlib.Core.Bool as B
use mathlib.Core.Path.{◌≡◌, refl, subst, subst₂, sym, ap, ap₂, ◌∙◌}
use mathlib.Core.Logic.{◌↔◌, ◌⊎◌, inl, inr, ⊎_elim}
use native.Mathlib.Omega.{arith}
use native.Mathlib.Decide.{dec_lt}
use borrow.Author.Tests.{lt-ltb, le-ltb}
use lib.Dec.{T, eqb, eqb→eq, ltb}
use lib.Bits.{bit_and, bit_or}
use lib.ListN.{length, get_or, take, drop, length-take, length-drop}
use lib.Seq.{slice, slice_empty, take-suc, drop-cons, drop-length, drop-drop}
use Rattle.book.specs.Format.{left_part, focus_part, right_part, start_flag, accept_flag}
use Rattle.book.specs.Reading.{Book}
use Rattle.book.specs.Language.{leads, state_of, is_of, starts, ends, is_start, is_accept, some_state, accepts, some_end, some_front, rules}
use Rattle.book.specs.Outline.{rule_mask, all_mask}
use Rattle.book.specs.StateSets.{member}
use Rattle.book.specs.Sound.{Sound}
use Rattle.book.proofs.Bits.{member_none, member_and, member_or, ext}
use Rattle.book.proofs.Tests.{Cut, cut_eq, and_both, and_left, and_right, same_test, any_up}
use Rattle.sets.specs.Sets.{set_of, into_by, left_first, left_next, right_last, right_prev, after, before, left_at, right_at}
use Rattle.sets.specs.Focus.{meets_accept, meets_start, may_start, focus_first, opened_by, opened_below, focus_step, focus_next, pruned, focus_at}
use Rattle.sets.proofs.Runs as Runs
use Rattle.sets.proofs.Runs.{Start, Accept, LeftHolds, RightHolds, Applies, LeftRun, RightRun, FocusRun, Later, run_rule, run_part}
use Rattle.sets.proofs.Bridge.{machine, book_stays, starts_in, starts_out, ends_in, ends_out, leads_in, leads_out, left_iff, right_iff, applies_iff}
use Rattle.sets.proofs.Slices.{take_cut, slice_cut, slice_join, slice_snoc, cut_front, cut_rest, cut_length, slice_take}
use Rattle.sets.proofs.Masks as Masks
use Rattle.sets.proofs.Masks.{none_of, none_rule, member_all, member_rule, member_of, none_both, meets, member_joins, at_rule}
use Rattle.sets.proofs.Closing.{into_past}
use Rattle.sets.proofs.Steps.{In, set_law, into_law, first_law, next_law, last_law, prev_law, meets_accept_lem, meets_start_lem, focus_first_law, focus_next_law}

-- ---- how the sets are found

after_snoc : (next : ℕ → ℕ → ℕ) (w : List ℕ) (X a : ℕ) → after next X (w ++ (a ∷ [])) ≡ next (after next X w) a
after_snoc next [] X a = refl
after_snoc next (c ∷ w) X a = after_snoc next w (next X c) a

pruned_snoc : (go : ℕ → ℕ → ℕ → ℕ) (right : List ℕ → ℕ) (u : List ℕ) (F a : ℕ) (v : List ℕ)
    → pruned go right F (u ++ (a ∷ [])) v ≡ go (pruned go right F u (a ∷ v)) a (right v)
pruned_snoc go right [] F a v = refl
pruned_snoc go right (c ∷ u) F a v =
    ap (λ (x : List ℕ). pruned go right (go F c (right x)) (u ++ (a ∷ [])) v) (append_assoc u (a ∷ []) v)
    ∙ pruned_snoc go right u (go F c (right (u ++ a ∷ v))) a v

module _ (b : Book) (t : List ℕ) where
  pub left_first_lem : left_at b t 0 ≡ left_first b
  unfolding left_at
  left_first_lem = refl

  pub left_next_lem : (i : ℕ) → i < length t → left_at b t (suc i) ≡ left_next b (left_at b t i) (get_or t i 0)
  unfolding left_at
  left_next_lem i h = ap (after (left_next b) (left_first b)) (take-suc t i 0 h) ∙ after_snoc (left_next b) (take i t) (left_first b) (get_or t i 0)

  pub right_last_lem : right_at b t (length t) ≡ right_last b
  unfolding right_at
  right_last_lem = ap (before (right_last b) (right_prev b)) (drop-length t)

  pub right_prev_lem : (i : ℕ) → i < length t → right_at b t i ≡ right_prev b (right_at b t (suc i)) (get_or t i 0)
  unfolding right_at
  right_prev_lem i h = ap (before (right_last b) (right_prev b)) (drop-cons t i 0 h)

  pub focus_first_lem : (i : ℕ) → focus_at b t i i ≡ focus_first b (left_at b t i) (right_at b t i)
  unfolding focus_at
  focus_first_lem i = rw slice_empty

  pub focus_next_lem : (i j : ℕ) → i ≤ j → j < length t → focus_at b t i (suc j) ≡ focus_next b (focus_at b t i j) (get_or t j 0) (right_at b t (suc j))
  unfolding focus_at right_at
  focus_next_lem i j k l =
      ap (λ (u : List ℕ). pruned (focus_next b) right F u (drop (suc j) t)) (slice_snoc t i j k l)
      ∙ pruned_snoc (focus_next b) right (slice i j t) F (get_or t j 0) (drop (suc j) t)
      ∙ ap (λ (v : List ℕ). focus_next b (pruned (focus_next b) right F (slice i j t) v) (get_or t j 0) (right (drop (suc j) t))) (sym (drop-cons t j 0 l))
    where
      right : List ℕ → ℕ
      right = before (right_last b) (right_prev b)

      F : ℕ
      F = focus_first b (left_at b t i) (right_at b t i)

-- ---- what the sets hold

-- "the left-part states reached at i by runs from a start state begun at any position up to i"
pub record LeftState (b : Book) (t : List ℕ) (i s : ℕ) : Type 0 where
  pub left : (state_of b s).part ≡ 0
  pub start : ℕ
  pub is_start_lem : T (starts b left_part start)
  pub begun : ℕ
  pub up_to : begun ≤ i
  pub reached : T (leads b.arcs start (slice begun i t) s)

-- "the right-part states from which some word beginning at i leads to acceptance"
pub record RightState (b : Book) (t : List ℕ) (i s : ℕ) : Type 0 where
  pub right : (state_of b s).part ≡ right_part
  pub k : ℕ
  pub from : i ≤ k
  pub inside : k ≤ length t
  pub accept : ℕ
  pub is_accept_lem : T (ends b right_part accept)
  pub reached : T (leads b.arcs s (slice i k t) accept)

-- "the focus states from which a stretch i to k (k ≥ i) leads to acceptance with the right language of that rule holding at k"
pub record FocusState (b : Book) (t : List ℕ) (i s : ℕ) : Type 0 where
  pub focus : (state_of b s).part ≡ 1
  pub k : ℕ
  pub from : i ≤ k
  pub inside : k ≤ length t
  pub accept : ℕ
  pub is_accept_lem : T (ends b focus_part accept)
  pub reached : T (leads b.arcs s (slice i k t) accept)
  pub right : T ((rules b).right (state_of b s).rule (drop k t))

-- the rule r applies to the stretch from i to j: its left language holds at i, the stretch is in its focus language, its right language holds at j
abbrev pub applies : Book → List ℕ → ℕ → ℕ → ℕ → Bool
applies b t i j r = (rules b).focus r (slice i j t) && (rules b).left r (take i t) && (rules b).right r (drop j t)

module _ (b : Book) (h : Sound b) (t : List ℕ) where
  -- "The left set at i holds the left-part states reached at i by runs from a start state begun at any position up to i."
  pub left_at_lem : (i s : ℕ) → T (member (left_at b t i) s) ↔ LeftState b t i s
  unfolding left_at
  left_at_lem i s = (λ x. to (law.0 x), λ z. law.1 (from z))
    where
      law : In s (after (left_next b) (left_first b) (take i t)) ↔ LeftRun (machine b) (take i t) s
      law = Runs.left_set_lem (machine b) ℕ In (left_first b) (left_next b) (first_law b) (next_law b h) (take i t) s

      to : LeftRun (machine b) (take i t) s → LeftState b t i s
      to z = record {
        left = sym (run_part (book_stays h) z.run) ∙ z.start.in_part;
        start = z.from;
        is_start_lem = starts_in b z.start;
        begun = length z.front;
        up_to = omega (arith, cut_length z.cut, length-take i t);
        reached = subst (λ (w : List ℕ). T (leads b.arcs z.from w s)) (cut_rest z.cut) (leads_in b z.run);
      }

      from : LeftState b t i s → LeftRun (machine b) (take i t) s
      from z = record {
        front = take z.begun (take i t);
        word = slice z.begun i t;
        from = z.start;
        rule = (state_of b z.start).rule;
        cut = take_cut z.begun (take i t);
        start = starts_out b left_part z.start z.is_start_lem;
        run = leads_out b (slice z.begun i t) z.start s z.reached;
      }

  -- "The right set at i holds the right-part states from which some word beginning at i leads to acceptance, and the focus states from which
  -- a stretch i to k (k ≥ i) leads to acceptance with the right language of that rule holding at k."
  pub right_at_lem : (i s : ℕ) → i ≤ length t → T (member (right_at b t i) s) ↔ (RightState b t i s ⊎ FocusState b t i s)
  unfolding right_at
  right_at_lem i s g = (
    λ x. ⊎_elim (λ z. inl (right z)) (λ z. inr (focus z)) (law.0 x),
    λ x. law.1 (⊎_elim (λ z. inl (from_right z)) (λ z. inr (from_focus z)) x),
  )
    where
      law : In s (before (right_last b) (right_prev b) (drop i t)) ↔ (RightRun (machine b) (drop i t) s ⊎ FocusRun (machine b) (drop i t) s)
      law = Runs.right_set_lem (machine b) ℕ In (book_stays h) (right_last b) (right_prev b) (last_law b) (prev_law b h) (drop i t) s

      -- where the word of a cut ends
      at : {u v : List ℕ} → Cut u v (drop i t) → (k : ℕ) × (i ≤ k) × (k ≤ length t) × (u ≡ slice i k t) × (v ≡ drop k t)
      at {u} {v} c =
          let m = cut_length c in
          let n = length-drop i t in
          (i + length u, omega arith, omega arith, cut_front c ∙ sym (slice_take t i (length u)), cut_rest c ∙ drop-drop (length u) i t)

      right : RightRun (machine b) (drop i t) s → RightState b t i s
      right z = let y = at z.cut in record {
        right = run_part (book_stays h) z.run ∙ z.accept.in_part;
        k = y.0;
        from = y.1;
        inside = y.2;
        accept = z.to;
        is_accept_lem = ends_in b z.accept;
        reached = subst (λ (w : List ℕ). T (leads b.arcs s w z.to)) y.3 (leads_in b z.run);
      }

      focus : FocusRun (machine b) (drop i t) s → FocusState b t i s
      focus z = let y = at z.cut in let e = run_rule (book_stays h) z.run ∙ z.accept.of in record {
        focus = run_part (book_stays h) z.run ∙ z.accept.in_part;
        k = y.0;
        from = y.1;
        inside = y.2;
        accept = z.to;
        is_accept_lem = ends_in b z.accept;
        reached = subst (λ (w : List ℕ). T (leads b.arcs s w z.to)) y.3 (leads_in b z.run);
        right = (right_iff b (state_of b s).rule (drop y.0 t)).1 (subst₂ (λ (r : ℕ) (w : List ℕ). RightHolds (machine b) r w) (sym e) y.4 z.right);
      }

      from_right : RightState b t i s → RightRun (machine b) (drop i t) s
      from_right z = record {
        word = slice i z.k t;
        rest = drop z.k t;
        to = z.accept;
        rule = (state_of b z.accept).rule;
        cut = slice_cut t i z.k z.from;
        run = leads_out b (slice i z.k t) s z.accept z.reached;
        accept = ends_out b right_part z.accept z.is_accept_lem;
      }

      from_focus : FocusState b t i s → FocusRun (machine b) (drop i t) s
      from_focus z = let run = leads_out b (slice i z.k t) s z.accept z.reached in record {
        word = slice i z.k t;
        rest = drop z.k t;
        to = z.accept;
        rule = (state_of b s).rule;
        cut = slice_cut t i z.k z.from;
        run = run;
        accept =
            subst (λ (r : ℕ). Accept (machine b) r focus_part z.accept) (sym (run_rule (book_stays h) run))
            (ends_out b focus_part z.accept z.is_accept_lem);
        right = (right_iff b (state_of b s).rule (drop z.k t)).0 z.right;
      }

  -- ---- the tests of the contexts

  left_test : (r i : ℕ) → LeftHolds (machine b) r (take i t) ↔ ((s : ℕ) × Accept (machine b) r left_part s × T (member (left_at b t i) s))
  unfolding left_at
  left_test r i = Runs.left_test (machine b) ℕ In (left_first b) (left_next b) (first_law b) (next_law b h) (book_stays h) r (take i t)

  right_test : (r i : ℕ) → RightHolds (machine b) r (drop i t) ↔ ((s : ℕ) × Start (machine b) r right_part s × T (member (right_at b t i) s))
  unfolding right_at
  right_test r i = Runs.right_test (machine b) ℕ In (book_stays h) (right_last b) (right_prev b) (last_law b) (prev_law b h) r (drop i t)

  -- the left language of r holds at i exactly if the left set at i meets r's left accept states
  pub left_holds : (r i : ℕ) → (rules b).left r (take i t) ≡ meets_accept b r left_part (left_at b t i)
  left_holds r i = same_test (some_end (accepts b r left_part) (take i t)) (meets_accept b r left_part (left_at b t i)) (
    λ x. (meets_accept_lem b r left_part (left_at b t i)).1 ((left_test r i).0 ((left_iff b r (take i t)).0 x)),
    λ x. (left_iff b r (take i t)).1 ((left_test r i).1 ((meets_accept_lem b r left_part (left_at b t i)).0 x)),
  )

  -- the right language of r holds at i exactly if the right set at i meets r's right start states
  pub right_holds : (r i : ℕ) → (rules b).right r (drop i t) ≡ meets_start b r right_part (right_at b t i)
  right_holds r i = same_test (some_front (accepts b r right_part) (drop i t)) (meets_start b r right_part (right_at b t i)) (
    λ x. (meets_start_lem b r right_part (right_at b t i)).1 ((right_test r i).0 ((right_iff b r (drop i t)).0 x)),
    λ x. (right_iff b r (drop i t)).1 ((right_test r i).1 ((meets_start_lem b r right_part (right_at b t i)).0 x)),
  )

  -- ---- the pruned walk from i

  module _ (i : ℕ) where
    first_set_lem : (s : ℕ) → T (member (focus_first b (left_at b t i) (right_at b t i)) s)
        ↔ (((r : ℕ) × Start (machine b) r focus_part s × LeftHolds (machine b) r (take i t)) × T (member (right_at b t i) s))
    first_set_lem = focus_first_law b (take i t) (left_at b t i) (right_at b t i) (λ r. left_test r i)

    accepting : (r j : ℕ) → i ≤ j → Applies (machine b) (take i t) (slice i j t) (drop j t) r
        ↔ (((s : ℕ) × Accept (machine b) r focus_part s × T (member (focus_at b t i j) s)) × RightHolds (machine b) r (drop j t))
    unfolding focus_at right_at
    accepting r j k = Runs.accepting (machine b) ℕ In (book_stays h) (right_last b) (right_prev b) (last_law b) (prev_law b h) (focus_next b) (focus_next_law b h)
        (take i t) (focus_first b (left_at b t i) (right_at b t i)) (drop i t) first_set_lem r (slice_cut t i j k)

    alive : (j : ℕ) → i ≤ j → ((s : ℕ) × T (member (focus_at b t i j) s)) ↔ Later (machine b) (take i t) (slice i j t) (drop j t)
    unfolding focus_at right_at
    alive j k = Runs.alive (machine b) ℕ In (book_stays h) (right_last b) (right_prev b) (last_law b) (prev_law b h) (focus_next b) (focus_next_law b h)
        (take i t) (focus_first b (left_at b t i) (right_at b t i)) (drop i t) first_set_lem (slice_cut t i j k)

    -- r applies to the stretch from i to j exactly if the focus set from i at j meets r's focus accept states and the right set at j its right start states
    pub focus_test : (j r : ℕ) → i ≤ j → applies b t i j r ≡ (meets_accept b r focus_part (focus_at b t i j) && meets_start b r right_part (right_at b t j))
    focus_test j r k = same_test (applies b t i j r) (A && B) (
      λ x. let y = (accepting r j k).0 ((applies_iff b r (take i t) (slice i j t) (drop j t)).0 x) in
          and_both A B ((meets_accept_lem b r focus_part (focus_at b t i j)).1 y.0) ((meets_start_lem b r right_part (right_at b t j)).1 ((right_test r j).0 y.1)),
      λ x. (applies_iff b r (take i t) (slice i j t) (drop j t)).1 ((accepting r j k).1 (
        (meets_accept_lem b r focus_part (focus_at b t i j)).0 (and_left A B x),
        (right_test r j).1 ((meets_start_lem b r right_part (right_at b t j)).0 (and_right A B x)),
      )),
    )
      where
        A : Bool
        A = meets_accept b r focus_part (focus_at b t i j)

        B : Bool
        B = meets_start b r right_part (right_at b t j)

    -- where the focus set from i at j is empty, no rule applies to a stretch from i that ends at j or later
    pub focus_dead : (j k r : ℕ) → i ≤ j → j ≤ k → focus_at b t i j ≡ 0 → T (applies b t i k r) → ⊥
    focus_dead j k r g l none x =
        let y = (alive j g).1 (record {
          more = slice j k t;
          rest = drop k t;
          focus = slice i k t;
          rule = r;
          cut = slice_cut t j k l;
          whole = slice_join t i j k g l;
          applies = (applies_iff b r (take i t) (slice i k t) (drop k t)).0 x;
        }) in
        subst T (ap (λ (X : ℕ). member X y.0) none ∙ member_none y.0) y.1

    -- and where it is not, some rule does
    pub focus_live : (j s : ℕ) → i ≤ j → j ≤ length t → T (member (focus_at b t i j) s) → (k r : ℕ) × (j ≤ k) × (k ≤ length t) × T (applies b t i k r)
    focus_live j s g l x =
        let y = (alive j g).0 (s, x) in
        let n = length y.more in
        let k = j + n in
        let e₀ : y.more ≡ slice j k t = cut_front y.cut ∙ sym (slice_take t j n) in
        let e₁ : y.focus ≡ slice i k t = cut_eq y.whole ∙ ap (λ (z : List ℕ). slice i j t ++ z) e₀ ∙ sym (cut_eq (slice_join t i j k g (omega arith))) in
        let e₂ : y.rest ≡ drop k t = cut_rest y.cut ∙ drop-drop n j t in
        let m = cut_length y.cut in
        let c = length-drop j t in (
          k,
          y.rule,
          omega arith,
          omega arith,
          (applies_iff b y.rule (take i t) (slice i k t) (drop k t)).1
              (subst₂ (λ (f w : List ℕ). Applies (machine b) (take i t) f w y.rule) e₁ e₂ y.applies),
        )

-- ---- the tests by masks, and the walk rule by rule and step by step

module _ (b : Book) (o : Sound b) where
  -- a set meets a rule's accept or start states of a part exactly if it has something in common with their mask
  pub accept_mask : (r part X : ℕ) → meets_accept b r part X ≡ not (eqb (bit_and X (rule_mask part accept_flag b.states r)) 0)
  unfolding is_accept rule_mask
  accept_mask r part X = sym (meets b o (λ s. eqb (state_of b s).rule r && is_of part accept_flag (state_of b s)) (none_rule b part accept_flag r) X)

  pub start_mask : (r part X : ℕ) → meets_start b r part X ≡ not (eqb (bit_and X (rule_mask part start_flag b.states r)) 0)
  unfolding is_start rule_mask
  start_mask r part X = sym (meets b o (λ s. eqb (state_of b s).rule r && is_of part 1 (state_of b s)) (none_rule b part 1 r) X)

  is_false : (c : Bool) → (T c → ⊥) → c ≡ false
  is_false c h = same_test c false (λ t. absurd (h t), λ t. absurd t)

  -- a set that holds no accept state of a part meets those of no rule
  pub accept_none : (r part X : ℕ) → bit_and X (all_mask part accept_flag b.states) ≡ 0 → meets_accept b r part X ≡ false
  unfolding all_mask is_accept
  accept_none r part X e = is_false (meets_accept b r part X) (λ t.
      let z = (any_up (λ (s : ℕ). is_accept b r part s && member X s) 0 (length b.states)).0 t in
      let s = z.0 in
      let R = eqb (state_of b s).rule r in let A = is_of part accept_flag (state_of b s) in
      subst T (none_both b o (λ k. is_of part accept_flag (state_of b k)) (none_of b part accept_flag) X e s)
      (and_both A (member X s) (and_right R A (and_left (R && A) (member X s) z.3)) (and_right (R && A) (member X s) z.3)))

  -- a part of which no state both starts and accepts has no empty word
  pub empty_none : (r part : ℕ) → bit_and (all_mask part start_flag b.states) (all_mask part accept_flag b.states) ≡ 0 → T (accepts b r part []) → ⊥
  unfolding accepts is_start is_accept leads
  empty_none r part e x =
      let n = length b.states in
      let X = all_mask part start_flag b.states in
      let accepting : ℕ → ℕ → Bool = λ s q. is_accept b r part q && leads b.arcs s [] q in
      let p = (any_up (λ (s : ℕ). is_start b r part s && some_state b (accepting s)) 0 n).0 x in
      let s = p.0 in
      let q = (any_up (accepting s) 0 n).0 (and_right (is_start b r part s) (some_state b (accepting s)) p.3) in
      let same = eqb→eq s q.0 (and_right (is_accept b r part q.0) (eqb s q.0) q.3) in
      let A = subst (λ (z : ℕ). T (is_accept b r part z)) (sym same) (and_left (is_accept b r part q.0) (eqb s q.0) q.3) in
      let S = and_right (eqb (state_of b s).rule r) (starts b part s) (and_left (is_start b r part s) (some_state b (accepting s)) p.3) in
      let held = and_both (is_accept b r part s) (member X s) A (subst T (sym (member_all b o part start_flag s)) S) in
      subst T (accept_none r part X e) ((any_up (λ (k : ℕ). is_accept b r part k && member X k) 0 n).1 (s, p.1, p.2, held))

  module _ (L : ℕ) where
    no_start : (s : ℕ) → length b.states ≤ s → may_start b L s ≡ false
    no_start s h = ap (λ (c : Bool). c && meets_accept b (state_of b s).rule left_part L) (none_of b focus_part start_flag s h)

    no_start_with : (c : Bool) (s : ℕ) → length b.states ≤ s → (c && may_start b L s) ≡ false
    no_start_with c s h = ap (λ (d : Bool). c && d) (no_start s h) ∙ B.and-false c

    -- where the right set holds no focus start nothing starts
    pub first_none : (R : ℕ) → bit_and R (all_mask focus_part start_flag b.states) ≡ 0 → focus_first b L R ≡ 0
    unfolding focus_first all_mask
    first_none R e = ext _ _ (λ s.
        member_of b o (λ k. may_start b L k && member R k) (λ k h. ap (λ (c : Bool). c && member R k) (no_start k h)) s ∙ none s ∙ sym (member_none s))
      where
        none : (s : ℕ) → (may_start b L s && member R s) ≡ false
        none s = is_false (may_start b L s && member R s) (λ t.
            let S = starts b focus_part s in let K = meets_accept b (state_of b s).rule left_part L in
            subst T (none_both b o (λ k. is_of focus_part start_flag (state_of b k)) (none_of b focus_part start_flag) R e s)
            (and_both S (member R s) (and_left S K (and_left (S && K) (member R s) t)) (and_right (S && K) (member R s) t)))

    -- what a rule gives: its focus starts, where the left set meets its left accepts
    pub opened_mask : (r : ℕ) → opened_by b L r
        ≡ cond (eqb (bit_and L (rule_mask left_part accept_flag b.states r)) 0) 0 (rule_mask focus_part start_flag b.states r)
    unfolding opened_by
    opened_mask r = ext _ _ (λ s.
        member_of b o (λ k. eqb (state_of b k).rule r && may_start b L k) (λ k h. no_start_with (eqb (state_of b k).rule r) k h) s
        ∙ sym (member_joins (eqb (bit_and L (rule_mask left_part accept_flag b.states r)) 0) (rule_mask focus_part start_flag b.states r) s
        ∙ ap₂ (λ (c d : Bool). c && d) (sym (accept_mask r 0 L)) (member_rule b o 1 1 r s)
        ∙ at_rule (state_of b s).rule r (starts b focus_part s) (λ k. meets_accept b k left_part L)))

    below : (n s : ℕ) → member (opened_below b L n) s ≡ (ltb (state_of b s).rule n && may_start b L s)
    unfolding opened_below
    below n s = member_of b o (λ k. ltb (state_of b k).rule n && may_start b L k) (λ k h. no_start_with (ltb (state_of b k).rule n) k h) s

    -- no rule, and one rule more
    pub below_none : opened_below b L 0 ≡ 0
    below_none = ext _ _ (λ s.
        below 0 s ∙ ap (λ (c : Bool). c && may_start b L s) (le-ltb (state_of b s).rule 0 (omega arith)) ∙ sym (member_none s))

    pub below_more : (n : ℕ) → opened_below b L (suc n) ≡ bit_or (opened_below b L n) (opened_by b L n)
    unfolding opened_by
    below_more n = ext _ _ (λ s.
        below (suc n) s ∙ Masks.below_more (state_of b s).rule n (may_start b L s)
        ∙ sym (member_or (opened_below b L n) (opened_by b L n) s
        ∙ ap₂ (λ (c d : Bool). c || d) (below n s)
        (member_of b o (λ k. eqb (state_of b k).rule n && may_start b L k) (λ k h. no_start_with (eqb (state_of b k).rule n) k h) s)))

    -- what all rules give, cut to the right set
    pub below_all : (n R : ℕ) → length b.words ≤ n → bit_and (opened_below b L n) R ≡ focus_first b L R
    unfolding focus_first
    below_all n R h = ext _ _ (λ s.
        member_and (opened_below b L n) R s
        ∙ ap (λ (c : Bool). c && member R s) (below n s ∙ every s (dec_lt s (length b.states)))
        ∙ sym (member_of b o (λ k. may_start b L k && member R k) (λ k g. ap (λ (c : Bool). c && member R k) (no_start k g)) s))
      where
        every : (s : ℕ) → Dec (s < length b.states) → (ltb (state_of b s).rule n && may_start b L s) ≡ may_start b L s
        every s (yes l) = ap (λ (c : Bool). c && may_start b L s) (lt-ltb (state_of b s).rule n (omega (arith, o.rule s l)))
        every s (no l) = no_start_with (ltb (state_of b s).rule n) s (omega arith) ∙ sym (no_start s (omega arith))

  -- the step, cut to the right set, is the next set
  pub step_pruned : (F a R : ℕ) → bit_and (focus_step b F a) R ≡ focus_next b F a R
  unfolding focus_step focus_next
  step_pruned F a R = ext _ _ (λ s.
      member_and (set_of b (into_by b F a)) R s
      ∙ ap (λ (c : Bool). c && member R s) (member_of b o (into_by b F a) (λ k h. into_past b F a k o h) s)
      ∙ sym (member_of b o (λ k. into_by b F a k && member R k) (λ k h. ap (λ (c : Bool). c && member R k) (into_past b F a k o h)) s))

-- nothing leads on from nothing
pub step_none : (b : Book) (a : ℕ) → focus_step b 0 a ≡ 0
unfolding focus_step
step_none b a = ext _ _ (λ s. same_test _ _ (
  λ t. absurd (let z = (into_law b 0 a s).0 ((set_law b (into_by b 0 a) s).0 t).1 in subst T (member_none z.0) z.1),
  λ t. absurd (subst T (member_none s) t),
))
