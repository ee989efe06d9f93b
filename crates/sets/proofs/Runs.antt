-- Runs of a machine over words, and what the left sets, the right sets and the sets of the pruned walk hold, for any sets with the laws
-- that are asked for. No book and no Bool here; Bridge.antt makes a machine of a book, Steps.antt gives the laws. Assumes nothing.
use Prim.Native.Nat.{ℕ}
use mathlib.Core.List.{List, [], ◌∷◌, ◌++◌}
use mathlib.Core.Path.{◌≡◌, refl, sym, ◌∙◌, subst}
use mathlib.Core.Logic.{◌↔◌, ◌⊎◌, inl, inr, ⊎_elim}
use native.Mathlib.Omega.{arith}
use Rattle.book.specs.Format.{left_part, focus_part, right_part}
use Rattle.book.proofs.Tests.{Cut, nil, cons, cut_of, cut_eq}
use Rattle.sets.specs.Sets.{after, before}
use Rattle.sets.specs.Focus.{pruned}

module _ (Step : ℕ → ℕ → ℕ → Type 0) where
  -- the word leads from p to q
  pub data Leads : ℕ → List ℕ → ℕ → Type 0 where
    stop : {p : ℕ} → Leads p [] p
    step : {p a m q : ℕ} {w : List ℕ} → Step p a m → Leads m w q → Leads p (a ∷ w) q

  pub leads_join : {u v w : List ℕ} {p m q : ℕ} → Cut u v w → Leads p u m → Leads m v q → Leads p w q
  leads_join nil stop k = k
  leads_join (cons c) (step s l) k = step s (leads_join c l k)

  pub leads_part : {u v w : List ℕ} {p q : ℕ} → Cut u v w → Leads p w q → (m : ℕ) × Leads p u m × Leads m v q
  leads_part {p = p} nil k = (p, stop, k)
  leads_part (cons c) (step s l) = let r = leads_part c l in (r.0, step s r.1, r.2)

-- a machine: its arcs, the rule and the part of each state, the start and the accept states
pub record Machine : Type 1 where
  pub Step : ℕ → ℕ → ℕ → Type 0
  pub rule : ℕ → ℕ
  pub part : ℕ → ℕ
  pub Begin : ℕ → Type 0
  pub End : ℕ → Type 0

-- arcs stay in one part of one rule
pub record Stays (M : Machine) : Type 0 where
  pub same_rule : {p a q : ℕ} → M.Step p a q → M.rule p ≡ M.rule q
  pub same_part : {p a q : ℕ} → M.Step p a q → M.part p ≡ M.part q

-- a start state, an accept state of part k of rule r
pub record Start (M : Machine) (r k s : ℕ) : Type 0 where
  pub of : M.rule s ≡ r
  pub in_part : M.part s ≡ k
  pub is : M.Begin s

pub record Accept (M : Machine) (r k s : ℕ) : Type 0 where
  pub of : M.rule s ≡ r
  pub in_part : M.part s ≡ k
  pub is : M.End s

-- a run of some word
abbrev pub Run : Machine → ℕ → List ℕ → ℕ → Type 0
Run M = Leads M.Step

-- the word is in the language of part k of rule r
pub record Accepts (M : Machine) (r k : ℕ) (w : List ℕ) : Type 0 where
  pub from : ℕ
  pub to : ℕ
  pub start : Start M r k from
  pub accept : Accept M r k to
  pub run : Run M from w to

-- some word ending at the end of w is in the left language
pub record LeftHolds (M : Machine) (r : ℕ) (w : List ℕ) : Type 0 where
  pub front : List ℕ
  pub word : List ℕ
  pub cut : Cut front word w
  pub accepts : Accepts M r left_part word

-- some word at the front of w is in the right language
pub record RightHolds (M : Machine) (r : ℕ) (w : List ℕ) : Type 0 where
  pub word : List ℕ
  pub rest : List ℕ
  pub cut : Cut word rest w
  pub accepts : Accepts M r right_part word

-- the rule r applies between l and w: its left language holds after l, f is in its focus language, its right language holds before w
pub record Applies (M : Machine) (l f w : List ℕ) (r : ℕ) : Type 0 where
  pub left : LeftHolds M r l
  pub focus : Accepts M r focus_part f
  pub right : RightHolds M r w

-- some rule applies to a word that begins with u and goes on into v, perhaps by nothing
pub record Later (M : Machine) (l u v : List ℕ) : Type 0 where
  pub more : List ℕ
  pub rest : List ℕ
  pub focus : List ℕ
  pub rule : ℕ
  pub cut : Cut more rest v
  pub whole : Cut u more focus
  pub applies : Applies M l focus rest rule

-- some start state of a left part has a run to s over a word that ends at the end of w
pub record LeftRun (M : Machine) (w : List ℕ) (s : ℕ) : Type 0 where
  pub front : List ℕ
  pub word : List ℕ
  pub from : ℕ
  pub rule : ℕ
  pub cut : Cut front word w
  pub start : Start M rule left_part from
  pub run : Run M from word s

-- from s some word at the front of w leads to acceptance in a right part
pub record RightRun (M : Machine) (w : List ℕ) (s : ℕ) : Type 0 where
  pub word : List ℕ
  pub rest : List ℕ
  pub to : ℕ
  pub rule : ℕ
  pub cut : Cut word rest w
  pub run : Run M s word to
  pub accept : Accept M rule right_part to

-- from s some word at the front of w leads to acceptance in a focus, and that rule's right language holds after it
pub record FocusRun (M : Machine) (w : List ℕ) (s : ℕ) : Type 0 where
  pub word : List ℕ
  pub rest : List ℕ
  pub to : ℕ
  pub rule : ℕ
  pub cut : Cut word rest w
  pub run : Run M s word to
  pub accept : Accept M rule focus_part to
  pub right : RightHolds M rule rest

-- s passes, or accepts in a right part
abbrev pub Near : Machine → (ℕ → Type 0) → ℕ → Type 0
Near M B s = B s ⊎ ((r : ℕ) × Accept M r right_part s)

-- and the focus accept states of the rules whose right start states are near
abbrev pub Close : Machine → (ℕ → Type 0) → ℕ → Type 0
Close M B s = Near M B s ⊎ ((r p : ℕ) × Accept M r focus_part s × Start M r right_part p × Near M B p)

module _ {M : Machine} (stays : Stays M) where
  pub run_rule : {p q : ℕ} {w : List ℕ} → Run M p w q → M.rule p ≡ M.rule q
  run_rule stop = refl
  run_rule (step s l) = stays.same_rule s ∙ run_rule l

  pub run_part : {p q : ℕ} {w : List ℕ} → Run M p w q → M.part p ≡ M.part q
  run_part stop = refl
  run_part (step s l) = stays.same_part s ∙ run_part l

  -- a run from a start state ends at an accept state of the same part: same rule
  pub one_rule_lem : {r r' k k' p q : ℕ} {w : List ℕ} → Start M r k p → Run M p w q → Accept M r' k' q → r ≡ r'
  one_rule_lem s l a = sym s.of ∙ run_rule l ∙ a.of

  pub one_part : {r r' k k' p q : ℕ} {w : List ℕ} → Start M r k p → Run M p w q → Accept M r' k' q → k ≡ k'
  one_part s l a = sym s.in_part ∙ run_part l ∙ a.in_part

  -- the other way round: what a run from a start state reaches accepts for that start's rule and part
  pub accept_as : {r r' k k' p q : ℕ} {w : List ℕ} → Start M r k p → Run M p w q → Accept M r' k' q → Accept M r k q
  accept_as s l a = record { of = sym (run_rule l) ∙ s.of; in_part = sym (run_part l) ∙ s.in_part; is = a.is }

module _ (M : Machine) (S : Type 0) (In : ℕ → S → Type 0) where
  -- ---- left sets
  module _ (first : S) (next : S → ℕ → S)
      (first_law : (s : ℕ) → In s first ↔ ((r : ℕ) × Start M r left_part s))
      (next_law : (X : S) (a s : ℕ) → In s (next X a) ↔ (((r : ℕ) × Start M r left_part s) ⊎ ((p : ℕ) × In p X × M.Step p a s))) where
    abbrev pub walk : S → List ℕ → S
    walk = after next

    walk_run : {w : List ℕ} {p s : ℕ} (X : S) → In p X → Run M p w s → In s (walk X w)
    walk_run X h stop = h
    walk_run {p = p} X h (step {a = a} {m = m} t l) = walk_run (next X a) ((next_law X a m).1 (inr (p, h, t))) l

    walk_late : {u v w : List ℕ} {r p s : ℕ} (X : S) → ((r s : ℕ) → Start M r left_part s → In s X)
        → Cut u v w → Start M r left_part p → Run M p v s → In s (walk X w)
    walk_late {r = r} {p = p} X all nil b l = walk_run X (all r p b) l
    walk_late X all (cons {a = a} c) b l = walk_late (next X a) (λ r s b. (next_law X a s).1 (inl (r, b))) c b l

    walk_from : (w : List ℕ) (X : S) (s : ℕ) → In s (walk X w) → ((p : ℕ) × In p X × Run M p w s) ⊎ LeftRun M w s
    walk_from [] X s h = inl (s, h, stop)
    walk_from (a ∷ w) X s h = ⊎_elim early late (walk_from w (next X a) s h)
      where
        late : LeftRun M w s → ((p : ℕ) × In p X × Run M p (a ∷ w) s) ⊎ LeftRun M (a ∷ w) s
        late z = inr (record { front = a ∷ z.front; word = z.word; from = z.from; rule = z.rule; cut = cons z.cut; start = z.start; run = z.run })

        early : ((q : ℕ) × In q (next X a) × Run M q w s) → ((p : ℕ) × In p X × Run M p (a ∷ w) s) ⊎ LeftRun M (a ∷ w) s
        early z = ⊎_elim
            (λ b. inr (record { front = a ∷ []; word = w; from = z.0; rule = b.0; cut = cons nil; start = b.1; run = z.2 }))
            (λ y. inl (y.0, y.1, step y.2 z.2))
            ((next_law X a z.0).0 z.1)

    -- the left set after w holds exactly the states reached by runs from start states begun at any position
    pub left_set_lem : (w : List ℕ) (s : ℕ) → In s (walk first w) ↔ LeftRun M w s
    left_set_lem w s = (
      λ h. ⊎_elim whole (λ z. z) (walk_from w first s h),
      λ z. walk_late first (λ r s b. (first_law s).1 (r, b)) z.cut z.start z.run,
    )
      where
        whole : ((p : ℕ) × In p first × Run M p w s) → LeftRun M w s
        whole z = let b = (first_law z.0).0 z.1 in record { front = []; word = w; from = z.0; rule = b.0; cut = nil; start = b.1; run = z.2 }

    -- the test of a left context: the left set meets the left accept states of r
    pub left_test : Stays M → (r : ℕ) (w : List ℕ) → LeftHolds M r w ↔ ((s : ℕ) × Accept M r left_part s × In s (walk first w))
    left_test stays r w = (to, from)
      where
        to : LeftHolds M r w → (s : ℕ) × Accept M r left_part s × In s (walk first w)
        to h = let x = h.accepts in (
          x.to,
          x.accept,
          (left_set_lem w x.to).1 (record { front = h.front; word = h.word; from = x.from; rule = r; cut = h.cut; start = x.start; run = x.run }),
        )

        from : ((s : ℕ) × Accept M r left_part s × In s (walk first w)) → LeftHolds M r w
        from z =
            let y = (left_set_lem w z.0).0 z.2 in
            let e = one_rule_lem stays y.start y.run z.1 in
            record {
              front = y.front;
              word = y.word;
              cut = y.cut;
              accepts = record { from = y.from; to = z.0; start = subst (λ (x : ℕ). Start M x left_part y.from) e y.start; accept = z.1; run = y.run };
            }

  -- ---- right sets
  -- an arc on a leads from s into the set
  abbrev pub Back : S → ℕ → ℕ → Type 0
  Back X a s = (q : ℕ) × M.Step s a q × In q X

  module _ (stays : Stays M) (last : S) (prev : S → ℕ → S)
      (last_law : (s : ℕ) → In s last ↔ Close M (λ q. ⊥) s)
      (prev_law : (X : S) (a s : ℕ) → In s (prev X a) ↔ Close M (Back X a) s) where
    abbrev pub walk_back : List ℕ → S
    walk_back = before last prev

    -- what a right set at w is, without cases on w
    Behind : List ℕ → ℕ → Type 0
    Behind [] s = ⊥
    Behind (a ∷ w) s = Back (walk_back w) a s

    back_law : (w : List ℕ) (s : ℕ) → In s (walk_back w) ↔ Close M (Behind w) s
    unfolding Behind
    back_law [] s = last_law s
    back_law (a ∷ w) s = prev_law (walk_back w) a s

    -- a run into the set is in the set
    back_run : {u v w : List ℕ} {s q : ℕ} → Cut u v w → Run M s u q → In q (walk_back v) → In s (walk_back w)
    back_run nil stop h = h
    back_run {s = s} (cons {a = a} {w = w} c) (step {m = m} t l) h = (prev_law (walk_back w) a s).1 (inl (inl (m, t, back_run c l h)))

    right_in : {w : List ℕ} {s : ℕ} → RightRun M w s → In s (walk_back w)
    right_in z = back_run z.cut z.run ((back_law z.rest z.to).1 (inl (inr (z.rule, z.accept))))

    right_near : {w : List ℕ} {s : ℕ} → RightRun M w s → Near M (Behind w) s
    unfolding Behind
    right_near {w} {s} z = go z.cut z.run z.accept
      where
        go : {u v w : List ℕ} {s q r : ℕ} → Cut u v w → Run M s u q → Accept M r right_part q → Near M (Behind w) s
        go {r = r} nil stop b = inr (r, b)
        go {v = v} {q = q} {r = r} (cons {u = u} c) (step {m = m} t l) b =
            inl (m, t, right_in (record { word = u; rest = v; to = q; rule = r; cut = c; run = l; accept = b }))

    focus_in : {w : List ℕ} {s : ℕ} → FocusRun M w s → In s (walk_back w)
    focus_in z =
        let h = z.right in
        let x = h.accepts in
        back_run z.cut z.run ((back_law z.rest z.to).1 (inr (
          z.rule,
          x.from,
          z.accept,
          x.start,
          right_near (record { word = h.word; rest = h.rest; to = x.to; rule = z.rule; cut = h.cut; run = x.run; accept = x.accept }),
        )))

    close_run : (w : List ℕ) → ((s : ℕ) → Behind w s → RightRun M w s ⊎ FocusRun M w s) → (s : ℕ) → Close M (Behind w) s → RightRun M w s ⊎ FocusRun M w s
    close_run w behind s = ⊎_elim (near s) far
      where
        near : (s : ℕ) → Near M (Behind w) s → RightRun M w s ⊎ FocusRun M w s
        near s = ⊎_elim (behind s) (λ b. inl (record { word = []; rest = w; to = s; rule = b.0; cut = nil; run = stop; accept = b.1 }))

        far : ((r p : ℕ) × Accept M r focus_part s × Start M r right_part p × Near M (Behind w) p) → RightRun M w s ⊎ FocusRun M w s
        far z = ⊎_elim
            (λ y. inr (record {
              word = [];
              rest = w;
              to = s;
              rule = z.0;
              cut = nil;
              run = stop;
              accept = z.2;
              right = record {
                word = y.word;
                rest = y.rest;
                cut = y.cut;
                accepts = record { from = z.1; to = y.to; start = z.3; accept = accept_as stays z.3 y.run y.accept; run = y.run };
              };
            }))
            (λ y. let e = one_part stays z.3 y.run y.accept in absurd (omega arith))
            (near z.1 z.4)

    set_run : (w : List ℕ) (s : ℕ) → In s (walk_back w) → RightRun M w s ⊎ FocusRun M w s
    unfolding Behind
    set_run [] s h = close_run [] (λ s b. absurd b) s ((back_law [] s).0 h)
    set_run (a ∷ w) s h = close_run (a ∷ w) (λ s b. onward s b.1 (set_run w b.0 b.2)) s ((back_law (a ∷ w) s).0 h)
      where
        onward : (s : ℕ) {q : ℕ} → M.Step s a q → RightRun M w q ⊎ FocusRun M w q → RightRun M (a ∷ w) s ⊎ FocusRun M (a ∷ w) s
        onward s t = ⊎_elim
            (λ y. inl (record {
              word = a ∷ y.word;
              rest = y.rest;
              to = y.to;
              rule = y.rule;
              cut = cons y.cut;
              run = step t y.run;
              accept = y.accept;
            }))
            (λ y. inr (record {
              word = a ∷ y.word;
              rest = y.rest;
              to = y.to;
              rule = y.rule;
              cut = cons y.cut;
              run = step t y.run;
              accept = y.accept;
              right = y.right;
            }))

    -- the right set at w holds exactly the right states with a run to acceptance, and the focus states with a run to acceptance before the right language holds
    pub right_set_lem : (w : List ℕ) (s : ℕ) → In s (walk_back w) ↔ (RightRun M w s ⊎ FocusRun M w s)
    right_set_lem w s = (set_run w s, ⊎_elim right_in focus_in)

    -- the test of a right context: the right set meets the right start states of r
    pub right_test : (r : ℕ) (w : List ℕ) → RightHolds M r w ↔ ((p : ℕ) × Start M r right_part p × In p (walk_back w))
    right_test r w = (to, from)
      where
        to : RightHolds M r w → (p : ℕ) × Start M r right_part p × In p (walk_back w)
        to h = let x = h.accepts in (
          x.from,
          x.start,
          right_in (record { word = h.word; rest = h.rest; to = x.to; rule = r; cut = h.cut; run = x.run; accept = x.accept }),
        )

        from : ((p : ℕ) × Start M r right_part p × In p (walk_back w)) → RightHolds M r w
        from z = ⊎_elim
            (λ y. record {
              word = y.word;
              rest = y.rest;
              cut = y.cut;
              accepts = record { from = z.0; to = y.to; start = z.1; accept = accept_as stays z.1 y.run y.accept; run = y.run };
            })
            (λ y. let e = one_part stays z.1 y.run y.accept in absurd (omega arith))
            (set_run w z.0 z.2)

    -- ---- the pruned walk
    -- next states, of which only those in the right set stay
    module _ (go : S → ℕ → S → S)
        (go-law : (F : S) (a : ℕ) (R : S) (s : ℕ) → In s (go F a R) ↔ (((p : ℕ) × In p F × M.Step p a s) × In s R)) where
      -- from F over the word u, with v after it
      abbrev pub prune : S → List ℕ → List ℕ → S
      prune = pruned go walk_back

      -- the pruned set: reached from F, and in the right set; the sets on the way do not show
      prune_to : {u : List ℕ} {p s : ℕ} (F : S) (v : List ℕ) → In p F → Run M p u s → In s (walk_back v) → In s (prune F u v)
      prune_to F v h stop k = h
      prune_to {p = p} F v h (step {a = a} {m = m} {w = u} t l) k =
          prune_to (go F a (walk_back (u ++ v))) v ((go-law F a (walk_back (u ++ v)) m).1 ((p, h, t), back_run (cut_of u v) l k)) l k

      prune_from : (u : List ℕ) (F : S) (v : List ℕ) (s : ℕ) → ((p : ℕ) → In p F → In p (walk_back (u ++ v)))
          → In s (prune F u v) → (p : ℕ) × In p F × Run M p u s × In s (walk_back v)
      prune_from [] F v s f h = (s, h, stop, f s h)
      prune_from (a ∷ u) F v s f h =
          let z = prune_from u (go F a (walk_back (u ++ v))) v s (λ q g. ((go-law F a (walk_back (u ++ v)) q).0 g).1) h in
          let y = ((go-law F a (walk_back (u ++ v)) z.0).0 z.1).0 in
          (y.0, y.1, step y.2 z.2, z.3)

      -- F₀: the focus start states of the rules whose left context holds, and in the right set
      module _ (l : List ℕ) (F : S) (w : List ℕ)
          (F-law : (s : ℕ) → In s F ↔ (((r : ℕ) × Start M r focus_part s × LeftHolds M r l) × In s (walk_back w))) where
        F-in : {u v : List ℕ} → Cut u v w → (p : ℕ) → In p F → In p (walk_back (u ++ v))
        F-in c p h = subst (λ (x : List ℕ). In p (walk_back x)) (cut_eq c) ((F-law p).0 h).1

        -- a state of the pruned set: where its run began, and its own rule's left context begun there
        begun : {u v : List ℕ} {s : ℕ} → Cut u v w → In s (prune F u v)
            → (p : ℕ) × Start M (M.rule s) focus_part p × LeftHolds M (M.rule s) l × Run M p u s × In s (walk_back v)
        begun {u} {v} {s} c h =
            let z = prune_from u F v s (F-in c) h in
            let y = ((F-law z.0).0 z.1).0 in
            let e : y.0 ≡ M.rule s = sym y.1.of ∙ run_rule stays z.2 in
            (z.0, subst (λ (r : ℕ). Start M r focus_part z.0) e y.1, subst (λ (r : ℕ). LeftHolds M r l) e y.2, z.2, z.3)

        -- r applies to a word exactly if a state of the pruned set accepts for r and r's right language holds after it
        pub accepting : {u v : List ℕ} (r : ℕ) → Cut u v w → Applies M l u v r ↔ (((s : ℕ) × Accept M r focus_part s × In s (prune F u v)) × RightHolds M r v)
        accepting {u} {v} r c = (to, λ z. from z.0 z.1)
          where
            to : Applies M l u v r → ((s : ℕ) × Accept M r focus_part s × In s (prune F u v)) × RightHolds M r v
            to h =
                let x = h.focus in
                let k = focus_in (record { word = []; rest = v; to = x.to; rule = r; cut = nil; run = stop; accept = x.accept; right = h.right }) in
                ((x.to, x.accept, prune_to F v ((F-law x.from).1 ((r, x.start, h.left), back_run c x.run k)) x.run k), h.right)

            from : ((s : ℕ) × Accept M r focus_part s × In s (prune F u v)) → RightHolds M r v → Applies M l u v r
            from z h =
                let y = begun c z.2 in
                record {
                  left = subst (λ (x : ℕ). LeftHolds M x l) z.1.of y.2;
                  focus = record { from = y.0; to = z.0; start = subst (λ (x : ℕ). Start M x focus_part y.0) z.1.of y.1; accept = z.1; run = y.3 };
                  right = h;
                }

        -- the pruned set is not empty exactly if some rule applies to a word that ends here or later
        pub alive : {u v : List ℕ} → Cut u v w → ((s : ℕ) × In s (prune F u v)) ↔ Later M l u v
        alive {u} {v} c = (λ z. to z.0 z.1, from)
          where
            to : (s : ℕ) → In s (prune F u v) → Later M l u v
            to s h =
                let y = begun c h in
                ⊎_elim
                (λ z. let e = one_part stays y.1 (leads_join M.Step (cut_of u z.word) y.3 z.run) z.accept in absurd (omega arith))
                (λ z.
                let k = leads_join M.Step (cut_of u z.word) y.3 z.run in
                let e = one_rule_lem stays y.1 k z.accept in
                record {
                  more = z.word;
                  rest = z.rest;
                  focus = u ++ z.word;
                  rule = z.rule;
                  cut = z.cut;
                  whole = cut_of u z.word;
                  applies = record {
                    left = subst (λ (x : ℕ). LeftHolds M x l) e y.2;
                    focus = record { from = y.0; to = z.to; start = subst (λ (x : ℕ). Start M x focus_part y.0) e y.1; accept = z.accept; run = k };
                    right = z.right;
                  };
                })
                (set_run v s y.4)

            from : Later M l u v → (s : ℕ) × In s (prune F u v)
            from z =
                let h = z.applies in
                let x = h.focus in
                let y = leads_part M.Step z.whole x.run in
                let k = focus_in (record {
                  word = z.more;
                  rest = z.rest;
                  to = x.to;
                  rule = z.rule;
                  cut = z.cut;
                  run = y.2;
                  accept = x.accept;
                  right = h.right;
                }) in
                (y.0, prune_to F v ((F-law x.from).1 ((z.rule, x.start, h.left), back_run c y.1 k)) y.1 k)
