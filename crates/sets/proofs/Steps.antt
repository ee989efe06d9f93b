-- What the sets of Sets.antt hold: the states that pass the test, and for each step the law that Runs.antt asks for. Assumes nothing.
use Prim.Native.Nat.{ℕ, ◌<◌}
use mathlib.Core.List.{List}
use mathlib.Core.Bool.{Bool, false, ◌&&◌}
use mathlib.Core.Path.{refl, subst, sym}
use mathlib.Core.Logic.{◌↔◌, ◌⊎◌, inl, inr, ⊎_elim}
use native.Mathlib.Omega.{arith}
use native.Mathlib.Decide.{dec_lt}
use lib.Dec.{T, eqb, eqb→eq}
use lib.ListN.{length}
use Rattle.book.specs.Format.{left_part, focus_part, right_part}
use Rattle.book.specs.Reading.{Book}
use Rattle.book.specs.Language.{opens, state_of, starts, ends, is_start, is_accept, some_state}
use Rattle.book.specs.StateSets.{member, encode}
use Rattle.book.specs.Sound.{Sound}
use Rattle.book.proofs.Bits.{member_encode, member_past, encode_lt}
use Rattle.book.proofs.Sound.{arc_fits}
use Rattle.book.proofs.Tests.{and_both, and_left, and_right, or_left, or_right, or_cases, any_in, any_out}
use Rattle.sets.specs.Sets.{set_of, into_by, back_by, left_first, left_next, near, closed, right_last, right_prev}
use Rattle.sets.specs.Focus.{meets_accept, meets_start, focus_first, focus_next}
use Rattle.sets.proofs.Runs.{Start, Accept, Near, Close, Back, LeftHolds}
use Rattle.sets.proofs.Bridge.{ArcStep, machine, opens_from, eqb_in, start_known, accept_known, some_out, some_in}
use Rattle.sets.proofs.Bridge.{starts_in, starts_out, ends_in, ends_out, start_in_lem, start_out, accept_in, accept_out}

-- the sets that Runs.antt speaks of are numbers
abbrev pub In : ℕ → ℕ → Type 0
In s X = T (member X s)

module _ (b : Book) where
  -- a set holds exactly the states of the book that pass its test
  pub set_law : (f : ℕ → Bool) (s : ℕ) → T (member (set_of b f) s) ↔ ((s < length b.states) × T (f s))
  unfolding set_of
  set_law f s = (λ t. to t (dec_lt s n), λ z. subst T (sym (member_encode f n s z.0)) z.1)
    where
      n : ℕ
      n = length b.states

      to : T (member (encode f (length b.states)) s) → Dec (s < length b.states) → (s < length b.states) × T (f s)
      to t (yes h) = (h, subst T (member_encode f (length b.states) s h) t)
      to t (no h) = absurd (subst T (member_past (length b.states) (encode f (length b.states)) s (encode_lt f (length b.states)) (omega arith)) t)

  starts_law : (part s : ℕ) → T (starts b part s) ↔ ((r : ℕ) × Start (machine b) r part s)
  starts_law part s = (λ t. ((state_of b s).rule, starts_out b part s t), λ z. starts_in b z.1)

  ends_law : (part s : ℕ) → T (ends b part s) ↔ ((r : ℕ) × Accept (machine b) r part s)
  ends_law part s = (λ t. ((state_of b s).rule, ends_out b part s t), λ z. ends_in b z.1)

  -- an arc from the set leads to s; an arc from s leads into the set
  pub into_law : (X a s : ℕ) → T (into_by b X a s) ↔ ((p : ℕ) × T (member X p) × ArcStep b p a s)
  unfolding into_by
  into_law X a s = (to, from)
    where
      to : T (into_by b X a s) → (p : ℕ) × T (member X p) × ArcStep b p a s
      to t =
          let z = any_out _ b.arcs t in
          let x = z.0 in
          let u = and_right (member X x.from) (opens x x.from a && eqb x.to s) z.2 in (
            x.from,
            and_left (member X x.from) (opens x x.from a && eqb x.to s) z.2,
            record {
              arc = x;
              listed = z.1;
              open_to_lem = and_left (opens x x.from a) (eqb x.to s) u;
              to = eqb→eq x.to s (and_right (opens x x.from a) (eqb x.to s) u);
            },
          )

      from : ((p : ℕ) × T (member X p) × ArcStep b p a s) → T (into_by b X a s)
      from z =
          let y = z.2 in
          let x = y.arc in
          let e = sym (opens_from x z.0 a y.open_to_lem) in
          any_in _ y.listed (and_both (member X x.from) (opens x x.from a && eqb x.to s) (subst (λ (p : ℕ). T (member X p)) e z.1)
          (and_both (opens x x.from a) (eqb x.to s) (subst (λ (p : ℕ). T (opens x p a)) e y.open_to_lem) (eqb_in y.to)))

  pub back_law : (X a s : ℕ) → T (back_by b X a s) ↔ ((q : ℕ) × ArcStep b s a q × T (member X q))
  unfolding back_by
  back_law X a s = (to, from)
    where
      to : T (back_by b X a s) → (q : ℕ) × ArcStep b s a q × T (member X q)
      to t =
          let z = any_out _ b.arcs t in
          let x = z.0 in (
            x.to,
            record { arc = x; listed = z.1; open_to_lem = and_left (opens x s a) (member X x.to) z.2; to = refl },
            and_right (opens x s a) (member X x.to) z.2,
          )

      from : ((q : ℕ) × ArcStep b s a q × T (member X q)) → T (back_by b X a s)
      from z =
          let y = z.1 in
          any_in _ y.listed (and_both (opens y.arc s a) (member X y.arc.to) y.open_to_lem (subst (λ (q : ℕ). T (member X q)) (sym y.to) z.2))

  -- the tests of a set
  pub meets_accept_lem : (r part X : ℕ) → T (meets_accept b r part X) ↔ ((s : ℕ) × Accept (machine b) r part s × T (member X s))
  meets_accept_lem r part X = (
    λ t. let z = some_out b (is_accept b r part) (member X) t in (z.0, accept_out b r part z.0 z.1, z.2),
    λ z. some_in b (is_accept b r part) (member X) z.0 (accept_known b z.1) (accept_in b z.1) z.2,
  )

  pub meets_start_lem : (r part X : ℕ) → T (meets_start b r part X) ↔ ((s : ℕ) × Start (machine b) r part s × T (member X s))
  meets_start_lem r part X = (
    λ t. let z = some_out b (is_start b r part) (member X) t in (z.0, start_out b r part z.0 z.1, z.2),
    λ z. some_in b (is_start b r part) (member X) z.0 (start_known b z.1) (start_in_lem b z.1) z.2,
  )

  -- the left set of the empty tape
  pub first_law : (s : ℕ) → T (member (left_first b) s) ↔ ((r : ℕ) × Start (machine b) r left_part s)
  unfolding left_first
  first_law s = (λ t. (starts_law left_part s).0 ((set_law _ s).0 t).1, λ z. (set_law _ s).1 (start_known b z.1, (starts_law left_part s).1 z))

  -- the closing of a right set, whose states before it are those of B
  module _ (f : ℕ → Bool) (B : ℕ → Type 0) (e : (s : ℕ) → T (f s) ↔ B s) (g : (s : ℕ) → B s → s < length b.states) where
    near_law : (s : ℕ) → T (near b f s) ↔ Near (machine b) B s
    near_law s = (
      λ t. ⊎_elim (λ k. inl ((e s).0 k)) (λ k. inr ((ends_law right_part s).0 k)) (or_cases (f s) (ends b right_part s) t),
      ⊎_elim (λ k. or_left (f s) (ends b right_part s) ((e s).1 k)) (λ k. or_right (f s) (ends b right_part s) ((ends_law right_part s).1 k)),
    )

    near_known : (s : ℕ) → Near (machine b) B s → s < length b.states
    near_known s = ⊎_elim (g s) (λ z. accept_known b z.1)

    pub closed_law : (s : ℕ) → T (member (closed b f) s) ↔ Close (machine b) B s
    unfolding closed
    closed_law s = (to, from)
      where
        r : ℕ
        r = (state_of b s).rule

        m : Bool
        m = some_state b (λ (p : ℕ). is_start b (state_of b s).rule right_part p && near b f p)

        far : T (ends b focus_part s && m) → Close (machine b) B s
        far t =
            let z = some_out b (is_start b r right_part) (near b f) (and_right (ends b focus_part s) m t) in
            inr (r, z.0, ends_out b focus_part s (and_left (ends b focus_part s) m t), start_out b r right_part z.0 z.1, (near_law z.0).0 z.2)

        to : T (member (closed b f) s) → Close (machine b) B s
        to t = ⊎_elim (λ k. inl ((near_law s).0 k)) far (or_cases (near b f s) (ends b focus_part s && m) ((set_law _ s).0 t).1)

        back : ((r p : ℕ) × Accept (machine b) r focus_part s × Start (machine b) r right_part p × Near (machine b) B p) → T (member (closed b f) s)
        back z =
            let w = subst (λ (x : ℕ). Start (machine b) x right_part z.1) (sym z.2.of) z.3 in
            (set_law _ s).1 (
              accept_known b z.2,
              or_right (near b f s) (ends b focus_part s && m) (and_both (ends b focus_part s) m (ends_in b z.2)
                  (some_in b (is_start b r right_part) (near b f) z.1 (start_known b w) (start_in_lem b w) ((near_law z.1).1 z.4))),
            )

        from : Close (machine b) B s → T (member (closed b f) s)
        from = ⊎_elim (λ k. (set_law _ s).1 (near_known s k, or_left (near b f s) (ends b focus_part s && m) ((near_law s).1 k))) back

  -- the right set of the empty tape
  pub last_law : (s : ℕ) → T (member (right_last b) s) ↔ Close (machine b) (λ q. ⊥) s
  unfolding right_last
  last_law = closed_law (λ (s : ℕ). false) (λ q. ⊥) (λ s. (λ t. t, λ t. t)) (λ s t. absurd t)

  -- the first set of the pruned walk, where L is the left set after l
  pub focus_first_law : (l : List ℕ) (L R : ℕ) → ((r : ℕ) → LeftHolds (machine b) r l ↔ ((s : ℕ) × Accept (machine b) r left_part s × T (member L s))) → (s : ℕ)
      → T (member (focus_first b L R) s) ↔ (((r : ℕ) × Start (machine b) r focus_part s × LeftHolds (machine b) r l) × T (member R s))
  unfolding focus_first
  focus_first_law l L R e s = (to, from)
    where
      r : ℕ
      r = (state_of b s).rule

      m : Bool
      m = meets_accept b r left_part L

      to : T (member (focus_first b L R) s) → ((r : ℕ) × Start (machine b) r focus_part s × LeftHolds (machine b) r l) × T (member R s)
      to t =
          let u = ((set_law _ s).0 t).1 in
          let v = and_left (starts b focus_part s && m) (member R s) u in (
            (r, starts_out b focus_part s (and_left (starts b focus_part s) m v), (e r).1 ((meets_accept_lem r left_part L).0 (and_right (starts b focus_part s) m v))),
            and_right (starts b focus_part s && m) (member R s) u,
          )

      from : ((r : ℕ) × Start (machine b) r focus_part s × LeftHolds (machine b) r l) × T (member R s) → T (member (focus_first b L R) s)
      from z =
          let y = z.0 in
          let k = subst (λ (x : ℕ). LeftHolds (machine b) x l) (sym y.1.of) y.2 in
          (set_law _ s).1 (
            start_known b y.1,
            and_both (starts b focus_part s && m) (member R s)
                (and_both (starts b focus_part s) m (starts_in b y.1) ((meets_accept_lem r left_part L).1 ((e r).0 k))) z.1,
          )

  -- the steps: the states of an arc are the book's
  module _ (h : Sound b) where
    step_to : {p a s : ℕ} → ArcStep b p a s → s < length b.states
    step_to z = subst (λ (x : ℕ). x < length b.states) z.to (arc_fits h z.listed).to

    step_from : {p a s : ℕ} → ArcStep b p a s → p < length b.states
    step_from {p} {a} z = subst (λ (x : ℕ). x < length b.states) (opens_from z.arc p a z.open_to_lem) (arc_fits h z.listed).from

    pub next_law : (X a s : ℕ) → T (member (left_next b X a) s) ↔ (((r : ℕ) × Start (machine b) r left_part s) ⊎ ((p : ℕ) × T (member X p) × ArcStep b p a s))
    unfolding left_next
    next_law X a s = (to, from)
      where
        to : T (member (left_next b X a) s) → ((r : ℕ) × Start (machine b) r left_part s) ⊎ ((p : ℕ) × T (member X p) × ArcStep b p a s)
        to t =
            ⊎_elim (λ k. inl ((starts_law left_part s).0 k)) (λ k. inr ((into_law X a s).0 k))
            (or_cases (starts b left_part s) (into_by b X a s) ((set_law _ s).0 t).1)

        from : ((r : ℕ) × Start (machine b) r left_part s) ⊎ ((p : ℕ) × T (member X p) × ArcStep b p a s) → T (member (left_next b X a) s)
        from = ⊎_elim (λ z. (set_law _ s).1 (start_known b z.1, or_left (starts b left_part s) (into_by b X a s) ((starts_law left_part s).1 z)))
            (λ z. (set_law _ s).1 (step_to z.2, or_right (starts b left_part s) (into_by b X a s) ((into_law X a s).1 z)))

    pub prev_law : (X a s : ℕ) → T (member (right_prev b X a) s) ↔ Close (machine b) (Back (machine b) ℕ In X a) s
    unfolding right_prev
    prev_law X a = closed_law (back_by b X a) (Back (machine b) ℕ In X a) (back_law X a) (λ s z. step_from z.1)

    pub focus_next_law : (F a R s : ℕ) → T (member (focus_next b F a R) s) ↔ (((p : ℕ) × T (member F p) × ArcStep b p a s) × T (member R s))
    unfolding focus_next
    focus_next_law F a R s = (to, from)
      where
        to : T (member (focus_next b F a R) s) → ((p : ℕ) × T (member F p) × ArcStep b p a s) × T (member R s)
        to t = let u = ((set_law _ s).0 t).1 in ((into_law F a s).0 (and_left (into_by b F a s) (member R s) u), and_right (into_by b F a s) (member R s) u)

        from : ((p : ℕ) × T (member F p) × ArcStep b p a s) × T (member R s) → T (member (focus_next b F a R) s)
        from z = (set_law _ s).1 (step_to z.0.2, and_both (into_by b F a s) (member R s) ((into_law F a s).1 z.0) z.1)
