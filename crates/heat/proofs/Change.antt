-- "Where no two lanes overlap, a change to one tape changes other lanes only through the place and room of later ones." Assumes nothing.
use Prim.Native.Nat.{ℕ, zero, suc, ◌+◌, ◌-◌, ◌≤◌, ◌<◌}
use mathlib.Core.Path.{◌≡◌, refl, sym, ap, ◌∙◌}
use mathlib.Core.Logic.{◌⊎◌, inl, inr}
use mathlib.Core.Bool.{Bool, true, false, cond, ◌&&◌, false≢true}
use mathlib.Core.List.{List, [], ◌∷◌, ◌++◌}
use native.Mathlib.Omega.{arith}
use native.Mathlib.Decide.{ℕ_discrete}
use lib.Dec.{leb, ltb, eqb}
use lib.ListN.{length, take, drop, length-drop, take-append-drop}
use lib.Seq.{take-take, drop-drop}
use borrow.Author.Tests.{le-leb, leb-true, eqb-false}
use Rattle.book.specs.Language.{rules_in}
use Rattle.stretches.specs.Output.{rewriting, symbols_of, origins_of}
use Rattle.output.specs.declared.Rewritten.{Rewritten}
use Rattle.rewriter.specs.Replies.{AfterReady, ready_def, AfterRewrite, rewrite_def}
use Rattle.output.specs.Tape.{AfterTape, tape_def}
use Rattle.stretches.proofs.Lists.{by_test}
use Rattle.book.proofs.Laws.{and_left, and_right}
use Rattle.sets.specs.Tables.{AsBuilt}
use Rattle.rewriter.proofs.Standing.{has_room, ready_not_15, rewrite_answer, rewrite_refusal, rewrite_front, rewrite_front_origins}
use Rattle.heat.specs.declared.Lane.{Lane}
use Rattle.heat.specs.Lanes.{tape_of, answered, Leaving, AfterLane, outside, inside, lane_def, AfterLanes, lanes_leave, in_turn}
use Rattle.heat.specs.Apart.{Elsewhere, Apart, AllApart, none, both, RoomFor, class, written_of, written_origins}
use Rattle.heat.proofs.Room.{Roomy, alone}

-- ---- a lane apart from the change has the same tape
cut : (k n a : ℕ) (t : List ℕ) → k + n ≤ a → take n (drop k t) ≡ take n (drop k (take a t))
cut zero n a t h = sym (take-take n a t (omega arith))
cut (suc k) n zero t h = absurd (omega arith)
cut (suc k) n (suc a) [] h = refl
cut (suc k) n (suc a) (x ∷ t) h = cut k n a t (omega arith)

past : (b k : ℕ) (t : List ℕ) → b ≤ k → drop k t ≡ drop (k - b) (drop b t)
past b k t h = let e : b + (k - b) ≡ k = omega arith in sym (drop-drop (k - b) b t ∙ ap (λ (n : ℕ). drop n t) e)

module _ (t t' : List ℕ) (m : Lane) (e : Elsewhere t t' m) where
  pub same_tape : (l : Lane) → Apart m l → tape_of t l ≡ tape_of t' l
  same_tape l (inl h) = cut l.start l.length m.start t h ∙ ap (λ (z : List ℕ). take l.length (drop l.start z)) e.before
      ∙ sym (cut l.start l.length m.start t' h)
  same_tape l (inr h) = ap (take l.length) (past (m.start + m.length) l.start t h ∙ ap (drop (l.start - (m.start + m.length))) e.behind
      ∙ sym (past (m.start + m.length) l.start t' h))

  module _ (book R S : List ℕ) where
    -- from the same buffers and room it gets and leaves the same
    pub same_lane : (l : Lane) (s : Leaving) → Apart m l → lane_def book t R S l s ≡ lane_def book t' R S l s
    unfolding lane_def
    same_lane l s h = rw (e.same_length, same_tape l h)

    pub same_lanes : (ls : List Lane) (s : Leaving) → AllApart m ls → in_turn (lane_def book t R S) ls s ≡ in_turn (lane_def book t' R S) ls s
    unfolding in_turn
    same_lanes [] s none = refl
    same_lanes (l ∷ ls) s (both h hs) =
        ap (λ (d : AfterLane). lanes_leave (d.lane ∷ (in_turn (lane_def book t R S) ls d.left).lanes) (in_turn (lane_def book t R S) ls d.left).left)
        (same_lane l s h)
        ∙ ap (λ (r : AfterLanes). lanes_leave ((lane_def book t' R S l s).lane ∷ r.lanes) r.left) (same_lanes ls (lane_def book t' R S l s).left hs)

  -- and writes the same
  pub same_written : (l : Lane) → Apart m l → (book : List ℕ) → (written_of book t l ≡ written_of book t' l)
      × (written_origins book t l ≡ written_origins book t' l)
  same_written l h book =
      let p = same_tape l h in
      (ap (λ (z : List ℕ). symbols_of (rewriting (rules_in book) z)) p, ap (λ (z : List ℕ). origins_of (rewriting (rules_in book) z)) p)

pub turn_append : (f : Lane → Leaving → AfterLane) (ls ks : List Lane) (s : Leaving)
    → in_turn f (ls ++ ks) s ≡ lanes_leave ((in_turn f ls s).lanes ++ (in_turn f ks (in_turn f ls s).left).lanes) (in_turn f ks (in_turn f ls s).left).left
unfolding in_turn
turn_append f [] ks s = refl
turn_append f (l ∷ ls) ks s = ap (λ (r : AfterLanes). lanes_leave ((f l s).lane ∷ r.lanes) r.left) (turn_append f ls ks (f l s).left)

-- a reply is a refusal of the lane itself, or of the class 0
other_or_none : (k : ℕ) → ((k ≡ 0 → ⊥) × (k ≡ 15 → ⊥)) ⊎ (class k ≡ 0)
other_or_none k = by (ℕ_discrete k 0) (ℕ_discrete k 15)
  where
    by : Dec (k ≡ 0) → Dec (k ≡ 15) → ((k ≡ 0 → ⊥) × (k ≡ 15 → ⊥)) ⊎ (class k ≡ 0)
    by (yes z) d = inr (ap class z)
    by (no h) (yes z) = inr (ap class z)
    by (no h) (no g) = inl (h, g)

-- ---- a later lane: its record looks at the room alone
module _ (book R S : List ℕ) where
  -- both with room or neither: the same record
  pub same_record : (t : List ℕ) (l : Lane) (s s' : Leaving) → length s.scratch ≡ length s'.scratch
      → has_room (rules_in book) (tape_of t l) (drop s.used s.out) (drop s.used s.origins)
      ≡ has_room (rules_in book) (tape_of t l) (drop s'.used s'.out) (drop s'.used s'.origins)
      → (lane_def book t R S l s).lane ≡ (lane_def book t R S l s').lane
  unfolding lane_def
  same_record t l s s' p q = by (ltb (length t) (l.start + l.length))
    where
      a : Leaving → AfterRewrite
      a s = alone book t R S l s

      e : (a s).answer ≡ (a s').answer
      e = rewrite_answer book (tape_of t l) R S s.scratch s'.scratch (drop s.used s.out) (drop s'.used s'.out) (drop s.used s.origins)
          (drop s'.used s'.origins) p q

      by : (c : Bool) → (cond c (outside l s) (inside l s (a s))).lane ≡ (cond c (outside l s') (inside l s' (a s'))).lane
      by true = refl
      by false = ap (λ (r : Rewritten). answered l r.reply r.place r.length r.taken) e

  -- refused otherwise than by 15: the same record, whatever the room
  pub same_refusal : (t : List ℕ) (l : Lane) (s s' : Leaving) → length s.scratch ≡ length s'.scratch
      → ((lane_def book t R S l s).lane.reply ≡ 0 → ⊥) → ((lane_def book t R S l s).lane.reply ≡ 15 → ⊥) → (lane_def book t R S l s).lane
      ≡ (lane_def book t R S l s').lane
  unfolding lane_def
  same_refusal t l s s' p h g = by (ltb (length t) (l.start + l.length)) h g
    where
      a : Leaving → AfterRewrite
      a s = alone book t R S l s

      by : (c : Bool) → ((cond c (outside l s) (inside l s (a s))).lane.reply ≡ 0 → ⊥) → ((cond c (outside l s) (inside l s (a s))).lane.reply ≡ 15 → ⊥)
          → (cond c (outside l s) (inside l s (a s))).lane ≡ (cond c (outside l s') (inside l s' (a s'))).lane
      by true h g = refl
      by false h g =
          ap (λ (r : Rewritten). answered l r.reply r.place r.length r.taken)
          (rewrite_refusal book (tape_of t l) R S s.scratch s'.scratch (drop s.used s.out) (drop s'.used s'.out)
          (drop s.used s.origins) (drop s'.used s'.origins) p h g)

  -- but for the room, its reply is that of its tape
  pub same_class : (t : List ℕ) (l : Lane) (s s' : Leaving) → length s.scratch ≡ length s'.scratch
      → class (lane_def book t R S l s).lane.reply ≡ class (lane_def book t R S l s').lane.reply
  same_class t l s s' p = by (other_or_none (reply s)) (other_or_none (reply s'))
    where
      reply : Leaving → ℕ
      reply s = (lane_def book t R S l s).lane.reply

      by : ((reply s ≡ 0 → ⊥) × (reply s ≡ 15 → ⊥)) ⊎ (class (reply s) ≡ 0) → ((reply s' ≡ 0 → ⊥) × (reply s' ≡ 15 → ⊥)) ⊎ (class (reply s') ≡ 0)
          → class (reply s) ≡ class (reply s')
      by (inl h) d = ap (λ (x : Lane). class x.reply) (same_refusal t l s s' p h.0 h.1)
      by (inr z) (inl h) = sym (ap (λ (x : Lane). class x.reply) (same_refusal t l s' s (sym p) h.0 h.1))
      by (inr z) (inr y) = z ∙ sym y

  abbrev room_for : ℕ → Leaving → Bool
  room_for n s = leb n (length (drop s.used s.out)) && leb n (length (drop s.used s.origins))

  fits : (n : ℕ) (s : Leaving) → RoomFor n s → room_for n s ≡ true
  fits n s h = simp (
    le-leb n (length (drop s.used s.out)) (omega (arith, h.in_out, length-drop s.used s.out)),
    le-leb n (length (drop s.used s.origins)) (omega (arith, h.in_origins, length-drop s.used s.origins)),
  )

  fitting : (n : ℕ) (s : Leaving) → Roomy s → room_for n s ≡ true → RoomFor n s
  fitting n s r e =
      let a = leb n (length (drop s.used s.out)) in
      let b = leb n (length (drop s.used s.origins)) in
      record {
        in_out = omega (arith, r.in_out, leb-true n (length (drop s.used s.out)) (and_left a b e), length-drop s.used s.out);
        in_origins = omega (arith, r.in_origins, leb-true n (length (drop s.used s.origins)) (and_right a b e), length-drop s.used s.origins);
      }

  fails : (n : ℕ) (s : Leaving) → Roomy s → (RoomFor n s → ⊥) → room_for n s ≡ false
  fails n s r h = by (room_for n s) (λ e. h (fitting n s r e))
    where
      by : (c : Bool) → (c ≡ true → ⊥) → c ≡ false
      by true h = absurd (h refl)
      by false h = refl

  -- "only through the place and room of later ones": where both heats have room for it, or neither has, a later lane has the same record in both
  module _ (t t' : List ℕ) (m : Lane) (e : Elsewhere t t' m) (l : Lane) (apart : Apart m l) (s s' : Leaving) (p : length s.scratch ≡ length s'.scratch)
    where
      abbrev needs : ℕ
      needs = length (rewriting (rules_in book) (tape_of t l))

      onward : (lane_def book t R S l s).lane ≡ (lane_def book t R S l s').lane → (lane_def book t R S l s).lane ≡ (lane_def book t' R S l s').lane
      onward q = q ∙ ap (λ (d : AfterLane). d.lane) (same_lane t t' m e book R S l s' apart)

      pub later_record : RoomFor needs s → RoomFor needs s' → (lane_def book t R S l s).lane ≡ (lane_def book t' R S l s').lane
      later_record r r' = onward (same_record t l s s' p (fits needs s r ∙ sym (fits needs s' r')))

      pub later_short : Roomy s → Roomy s' → (RoomFor needs s → ⊥) → (RoomFor needs s' → ⊥) → (lane_def book t R S l s).lane ≡ (lane_def book t' R S l s').lane
      later_short r r' h h' = onward (same_record t l s s' p (fails needs s r h ∙ sym (fails needs s' r' h')))

      pub later_class : class (lane_def book t R S l s).lane.reply ≡ class (lane_def book t' R S l s').lane.reply
      later_class = same_class t l s s' p ∙ ap (λ (d : AfterLane). class d.lane.reply) (same_lane t t' m e book R S l s' apart)

  -- what a lane writes, at its own place: the front of its tape's rewriting, as many symbols as its record says; all else stays
  module _ (t : List ℕ) (l : Lane) (s : Leaving) where
    abbrev d : AfterLane
    d = lane_def book t R S l s

    pub lane_writes : d.left.out ≡ take s.used s.out ++ (take d.lane.out (written_of book t l) ++ drop (s.used + d.lane.out) s.out)
    unfolding lane_def
    lane_writes = by (ltb (length t) (l.start + l.length))
      where
        a : AfterRewrite
        a = alone book t R S l s

        by : (c : Bool) → (cond c (outside l s) (inside l s a)).left.out
            ≡ take s.used s.out ++
            (take (cond c (outside l s) (inside l s a)).lane.out (written_of book t l) ++ drop (s.used + (cond c (outside l s) (inside l s a)).lane.out)
            s.out)
        by true = let z : s.used ≡ s.used + 0 = omega arith in sym (take-append-drop s.used s.out)
            ∙ ap (λ (n : ℕ). take s.used s.out ++ drop n s.out) z
        by false =
            ap (λ (z : List ℕ). take s.used s.out ++ z)
            (rewrite_front book (tape_of t l) R S s.scratch (drop s.used s.out) (drop s.used s.origins)
            ∙ ap (λ (z : List ℕ). take a.answer.length (written_of book t l) ++ z) (drop-drop a.answer.length s.used s.out))

    pub lane_origins : d.left.origins
        ≡ take s.used s.origins ++ (take d.lane.out (written_origins book t l) ++ drop (s.used + d.lane.out) s.origins)
    unfolding lane_def
    lane_origins = by (ltb (length t) (l.start + l.length))
      where
        a : AfterRewrite
        a = alone book t R S l s

        by : (c : Bool) → (cond c (outside l s) (inside l s a)).left.origins
            ≡ take s.used s.origins ++
            (take (cond c (outside l s) (inside l s a)).lane.out (written_origins book t l) ++ drop
            (s.used + (cond c (outside l s) (inside l s a)).lane.out) s.origins)
        by true = let z : s.used ≡ s.used + 0 = omega arith in sym (take-append-drop s.used s.origins)
            ∙ ap (λ (n : ℕ). take s.used s.origins ++ drop n s.origins) z
        by false =
            ap (λ (z : List ℕ). take s.used s.origins ++ z)
            (rewrite_front_origins book (tape_of t l) R S s.scratch (drop s.used s.out) (drop s.used s.origins)
            ∙ ap (λ (z : List ℕ). take a.answer.length (written_origins book t l) ++ z) (drop-drop a.answer.length s.used s.origins))

  -- the ways of a lane: refused for itself, refused for want of room, accepted
  module _ (a : AsBuilt book R S) (t : List ℕ) (l : Lane) (s : Leaving) where
    abbrev all : ℕ
    all = length (rewriting (rules_in book) (tape_of t l))

    abbrev lane : Lane
    lane = (lane_def book t R S l s).lane

    lane_ways : (P : ℕ → ℕ → ℕ → Type 0) → ((k p : ℕ) → (k ≡ 0 → ⊥) → (k ≡ 15 → ⊥) → P k p 0)
        → (room_for all s ≡ false → P 15 all 0) → (room_for all s ≡ true → P 0 0 all) → P lane.reply lane.place lane.out
    unfolding lane_def rewrite_def tape_def
    lane_ways P other short whole =
        by_test (λ (d : AfterLane). P d.lane.reply d.lane.place d.lane.out) (ltb (length t) (l.start + l.length)) _ _
        (λ _. other 17 0 (λ q. absurd (ne 17 0 (omega arith) q)) (λ q. absurd (ne 17 15 (omega arith) q)))
        (λ _. by_test (λ (r : AfterRewrite). P r.answer.reply r.answer.place r.answer.length) (eqb p.answer.reply 0) _ _
        (λ _. by_test (λ (r : AfterTape). P r.answer.reply r.answer.place r.answer.length) (room_for all s) _ _ whole short)
        (λ e. other p.answer.reply p.answer.place (eqb-false p.answer.reply 0 e) (ready_not_15 book R S a (tape_of t l) s.scratch)))
      where
        p : AfterReady
        p = ready_def book (tape_of t l) R S s.scratch

        ne : (m n : ℕ) → n < m → m ≡ n → ⊥
        ne m n h q = omega arith

    pub lane_length : lane.out ≤ all
    lane_length = lane_ways (λ _ _ n. n ≤ all) (λ k p _ _. omega arith) (λ _. omega arith) (λ _. omega arith)

    pub lane_whole : lane.reply ≡ 0 → lane.out ≡ all
    lane_whole = lane_ways (λ r _ n. r ≡ 0 → n ≡ all) (λ k p h _ z. absurd (h z)) (λ _ z. absurd (let q : ◌≡◌ {A = ℕ} 15 0 = z in omega arith)) (λ _ _. refl)

    module _ (r : Roomy s) where
      pub lane_fits : lane.reply ≡ 0 → RoomFor all s
      lane_fits = lane_ways (λ k _ _. k ≡ 0 → RoomFor all s) (λ k p h _ z. absurd (h z)) (λ _ z. absurd (let q : ◌≡◌ {A = ℕ} 15 0 = z in omega arith))
          (λ e _. fitting all s r e)

      pub lane_short : lane.reply ≡ 15 → (RoomFor all s → ⊥) × (lane.place ≡ all)
      lane_short = lane_ways (λ k p _. k ≡ 15 → (RoomFor all s → ⊥) × (p ≡ all)) (λ k p _ h z. absurd (h z))
          (λ e _. ((λ f. false≢true (sym e ∙ fits all s f)), refl)) (λ _ z. absurd (let q : ◌≡◌ {A = ℕ} 0 15 = z in omega arith))
