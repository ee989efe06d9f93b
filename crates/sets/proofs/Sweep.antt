-- One reading of a rule's records for all states of a set. The records after a state's own add no more than the arcs give to the set, and
-- they add all that the arcs give to the set's states of that rule from that one on: no arc before the record names such a state, and none
-- of a later rule does. So it is enough to read the records of a rule when its first state of the set is picked. All this is said of one
-- symbol and of either direction: arcs are read from their byte p to their byte q. Assumes nothing.
use Prim.Native.Nat.{ℕ, zero, suc, ◌+◌, ◌-◌, ◌*◌, ◌/◌, ◌%◌, ◌^◌, ◌≤◌, ◌<◌}
use mathlib.Core.Path.{◌≡◌, refl, ap, ap₂, sym, subst, ◌∙◌}
use mathlib.Core.Logic.{◌≢◌, ◌⊎◌, inl, inr}
use mathlib.Core.Bool.{Bool, true, false, cond, not, ◌&&◌, ◌||◌}
use mathlib.Core.Bool as B
use mathlib.Core.List.{List, [], ◌∷◌, map}
use native.Mathlib.Decide.{ℕ_discrete, dec_lt}
use native.Mathlib.Omega.{arith}
use native.Mathlib.Nat.{mod-lt}
use lib.Dec.{eqb, leb}
use lib.Bits.{bit_or, bit_and, or_zero_r, or_comm, or_self, and_mask, and_lt}
use lib.Count.{count_trailing_zeros}
use lib.ListN.{length, get_or, length-append, get_or-eq_default}
use borrow.Author.Tests.{eqb-true, ne_eqb}
use Rattle.book.proofs.Bits.{member_or, member_one, ext, or_assoc, worth, without, Lowest, lowest, lowest_or}
use Rattle.book.specs.Format.{from_at, to_at, arc_size, state_size, arc_kind, state_kind, rule_kind, end_kind, most_states, byte, record_size}
use Rattle.book.specs.Reading.{State, Arc, Book, arc_at, with_record, book_of, check_def, scan_of}
use Rattle.book.specs.Language.{no_state, state_of}
use Rattle.book.specs.Sound.{Sound, no_arc}
use Rattle.book.specs.StateSets.{member}
use Rattle.book.proofs.Laws.{size_state, size_arc}
use Rattle.book.proofs.Passed.{Passed}
use Rattle.book.proofs.Accepted.{is_accepted}
use Rattle.book.proofs.Sound.{accepted_sound, kind_arc, ArcPassed, arc_passed}
use Rattle.book.proofs.Walk.{Walk, walk_start, walk_passed, walk_last, walk_more, walk_ind}
use Rattle.book.proofs.Walk.{states_more, states_same, arcs_more, arcs_same, first_same, first_rule}
use Rattle.book.proofs.Placing.{Found, found, found_place}
use Rattle.sets.specs.Stepping.{hop_fold, step_fold, end_of, turned, step_arcs, Within, SweptAll}
use Rattle.sets.proofs.Folds.{step_or, step_end}
use Rattle.sets.proofs.Ends.{end_is, turned_snoc}

-- ---- one arc's record, read without a branch

-- the test of one bit is the test of membership
bit_of : (set s : ℕ) → bit_and (set / 2 ^ s) 1 ≡ cond (member set s) 1 0
unfolding member
bit_of set s = and_mask (set / 2 ^ s) 1 ∙ go (set / 2 ^ s % 2) (mod-lt (set / 2 ^ s) (omega arith))
  where
    go : (d : ℕ) → d < 2 → d ≡ cond (eqb d 1) 1 0
    go zero h = refl
    go (suc zero) h = refl
    go (suc (suc d)) h = absurd (omega arith)

pub held : (set s : ℕ) → bit_and (set / 2 ^ s) 1 ≢ 0 → member set s ≡ true
held set s f = go (member set s) (bit_of set s)
  where
    go : (b : Bool) → bit_and (set / 2 ^ s) 1 ≡ cond b 1 0 → b ≡ true
    go true e = refl
    go false e = absurd (f e)

pub not_held : (set s : ℕ) → bit_and (set / 2 ^ s) 1 ≡ 0 → member set s ≡ false
not_held set s z = go (member set s) (bit_of set s)
  where
    go : (b : Bool) → bit_and (set / 2 ^ s) 1 ≡ cond b 1 0 → b ≡ false
    go true e = absurd (omega arith)
    go false e = refl

pub hop_bits : (x : Arc) (set a one two three : ℕ) → x.to < most_states
    → one ≡ bit_and (set / 2 ^ x.from) 1 → two ≡ cond (leb x.low a) one 0 → three ≡ cond (leb a x.high) two 0
    → (three * 2 ^ x.to) % 2 ^ 64 ≡ hop_fold x set a
unfolding hop_fold
hop_bits x set a one two three h e f g =
    ap (λ (y : ℕ). (y * 2 ^ x.to) % 2 ^ 64)
    (g ∙ ap (λ (y : ℕ). cond (leb a x.high) y 0) (f ∙ ap (λ (y : ℕ). cond (leb x.low a) y 0) (e ∙ bit_of set x.from)))
    ∙ go (member set x.from) (leb x.low a) (leb a x.high)
  where
    none : (0 * 2 ^ x.to) % 2 ^ 64 ≡ 0
    none = omega arith

    go : (m l k : Bool) → (cond k (cond l (cond m 1 0) 0) 0 * 2 ^ x.to) % 2 ^ 64 ≡ cond (m && (l && k)) (2 ^ x.to) 0
    go true true true = worth x.to h
    go true true false = none
    go true false true = none
    go true false false = none
    go false true true = none
    go false true false = none
    go false false true = none
    go false false false = none

-- ---- sets within sets

within_trans : (x y z : ℕ) → Within x y → Within y z → Within x z
within_trans x y z p q = ap (bit_or x) (sym q) ∙ sym (or_assoc x y z) ∙ ap (λ (w : ℕ). bit_or w z) p ∙ q

within_left : (x y : ℕ) → Within x (bit_or x y)
within_left x y = sym (or_assoc x x y) ∙ ap (λ (w : ℕ). bit_or w y) (or_self x)

within_right : (x y : ℕ) → Within y (bit_or x y)
within_right x y = ap (bit_or y) (or_comm x y) ∙ within_left y x ∙ or_comm y x

within_both : (x y z : ℕ) → Within x z → Within y z → Within (bit_or x y) z
within_both x y z p q = or_assoc x y z ∙ ap (bit_or x) q ∙ p

within_or : (x y u v : ℕ) → Within x u → Within y v → Within (bit_or x y) (bit_or u v)
within_or x y u v p q =
    within_both x y (bit_or u v) (within_trans x u (bit_or u v) p (within_left u v)) (within_trans y v (bit_or u v) q (within_right u v))

same_within : (x y : ℕ) → Within x y → Within y x → x ≡ y
same_within x y p q = sym q ∙ or_comm y x ∙ p

within_member : (x y s : ℕ) → Within x y → member x s ≡ true → member y s ≡ true
within_member x y s p e = ap (λ (w : ℕ). member w s) (sym p) ∙ member_or x y s ∙ ap (λ (b : Bool). b || member y s) e

one_within : (x s : ℕ) → member x s ≡ true → Within (2 ^ s) x
one_within x s e = ext _ _ (λ t. member_or (2 ^ s) x t ∙ ap (λ (b : Bool). b || member x t) (member_one s t) ∙ go t (eqb t s) refl)
  where
    go : (t : ℕ) (b : Bool) → eqb t s ≡ b → (b || member x t) ≡ member x t
    go t true f = sym (ap (member x) (eqb-true t s f) ∙ e)
    go t false f = refl

-- ---- the step of a smaller set

fold_within : (arcs : List Arc) (x y a : ℕ) → Within x y → Within (step_fold arcs x a) (step_fold arcs y a)
fold_within arcs x y a h = sym (step_or a arcs x y) ∙ ap (λ (z : ℕ). step_fold arcs z a) h

hop_within : (arc : Arc) (x y a : ℕ) → Within x y → Within (hop_fold arc x a) (hop_fold arc y a)
unfolding step_fold
hop_within arc x y a h =
    ap₂ bit_or (sym (or_zero_r (hop_fold arc x a))) (sym (or_zero_r (hop_fold arc y a))) ∙ fold_within (arc ∷ []) x y a h ∙ or_zero_r (hop_fold arc y a)

-- an arc that does not leave the state adds nothing
hop_none : (arc : Arc) (state a : ℕ) → arc.from ≢ state → hop_fold arc (2 ^ state) a ≡ 0
unfolding hop_fold
hop_none arc state a h = simp (member_one, ne_eqb _ _ h)

-- a byte that is no kind
pub no_kind : (k : ℕ) → k ≡ 0 → record_size k ≡ 0
unfolding record_size
no_kind k e = rw e

pub other_kind : (k : ℕ) → k ≢ arc_kind → k ≢ state_kind → ((k ≡ rule_kind) ⊎ (k ≡ end_kind) → ⊥) → record_size k ≡ 0
unfolding record_size
other_kind k f g h = simp (ne_eqb k rule_kind (λ e. h (inl e)), ne_eqb k state_kind g, ne_eqb k arc_kind f, ne_eqb k end_kind (λ e. h (inr e)))

-- an arc's record names states of the latest rule, which a set can hold
arc_stands : (s : List ℕ) (at : ℕ) (b B : Book) → Walk s at b B → byte s at ≡ arc_kind → ArcPassed b (arc_at s at)
arc_stands s at b B w k = arc_passed b (arc_at s at) (kind_arc s at b (walk_passed s at b B w).kind k)

first_grows : (s : List ℕ) (at : ℕ) (b B : Book) → Walk s at b B → b.first ≤ (with_record s at b).first
first_grows s at b B w = go (ℕ_discrete (byte s at) rule_kind)
  where
    go : Dec (byte s at ≡ rule_kind) → b.first ≤ (with_record s at b).first
    go (yes k) = rw (first_rule s at b k) w.sound.first
    go (no k) = rw (first_same s at b k) (omega arith)

-- a place other than 0 is that of the state's record
placed : (s : List ℕ) (state place : ℕ) → (check_def s).reply ≡ 0 → place ≡ (state_of (book_of s) state).place → 0 < place
    → Found s (book_of s) state (state_of (book_of s) state)
placed s state place z e h = go (dec_lt state (length (book_of s).states))
  where
    go : Dec (state < length (book_of s).states) → Found s (book_of s) state (state_of (book_of s) state)
    go (yes l) = found s (book_of s) (walk_start s z) state l
    go (no l) = absurd (omega (arith, e ∙ ap (λ (x : State). x.place) (get_or-eq_default (book_of s).states no_state {n = state} (omega arith))))

-- what is left after the lowest state lies above it
rest_above : (d x t s : ℕ) → Lowest d x t → member (without x) s ≡ true → (member x s ≡ true) × (t ≤ s)
rest_above d x t s l m = (was, above (dec_lt s t))
  where
    first : (p q : Bool) → (p && q) ≡ true → p ≡ true
    first true q e = refl
    first false q e = e

    was : member x s ≡ true
    was = first (member x s) (not (eqb s t)) (sym (l.rest s) ∙ m)

    above : Dec (s < t) → t ≤ s
    above (yes h) = absurd (B.false≢true (sym (l.none_below s h) ∙ was))
    above (no h) = omega arith

-- ---- how far the loops have come

-- over the rule's records: at each place the two bounds hold of the arcs so far
pub record Sweeping (p q : ℕ) (s : List ℕ) (B : Book) (state set a out at next : ℕ) : Type 0 where
  pub book : Book
  pub walk : Walk s at book B
  pub count : next ≡ length book.states
  pub past : state < next
  pub within : Within out (step_arcs p q book.arcs set a)
  pub each : (t : ℕ) → state ≤ t → member set t ≡ true → Within (step_arcs p q book.arcs (2 ^ t) a) out

-- over the states, the lowest first: what is out and the step of what is left make the step of the set, and what is left below `done` has
-- nothing to add
pub record Stepping (p q : ℕ) (arcs : List Arc) (set a left out done : ℕ) : Type 0 where
  pub small : left < 2 ^ 64
  pub of_set : Within left set
  pub whole : bit_or out (step_arcs p q arcs left a) ≡ step_arcs p q arcs set a
  pub near : (t : ℕ) → member left t ≡ true → t < done → Within (step_arcs p q arcs (2 ^ t) a) out

module _ (p q : ℕ) where
  step_or_arcs : (arcs : List Arc) (x y a : ℕ) → step_arcs p q arcs (bit_or x y) a ≡ bit_or (step_arcs p q arcs x a) (step_arcs p q arcs y a)
  unfolding step_arcs
  step_or_arcs arcs x y a = step_or a (map (turned p q) arcs) x y

  step_within : (arcs : List Arc) (x y a : ℕ) → Within x y → Within (step_arcs p q arcs x a) (step_arcs p q arcs y a)
  unfolding step_arcs
  step_within arcs x y a h = fold_within (map (turned p q) arcs) x y a h

  -- no arc names a state that is still to come
  step_without : (arcs : List Arc) (state a : ℕ) → ((j : ℕ) → j < length arcs → end_of p (get_or arcs j no_arc) ≢ state) → step_arcs p q arcs (2 ^ state) a ≡ 0
  unfolding step_arcs step_fold turned
  step_without [] state a h = refl
  step_without (x ∷ arcs) state a h =
      ap₂ bit_or (hop_none (turned p q x) state a (h 0 (omega arith))) (step_without arcs state a (λ j l. h (suc j) (omega arith)))

  step_absent : (b : Book) (state a : ℕ) → Sound b → length b.states ≤ state → step_arcs p q b.arcs (2 ^ state) a ≡ 0
  step_absent b state a o h =
      step_without b.arcs state a
      (λ j l. end_is (λ k. k ≢ state) p (get_or b.arcs j no_arc) (λ e. absurd (omega (arith, (o.arc j l).from))) (λ e. absurd (omega (arith, (o.arc j l).to))))

  -- ---- what a record changes, and what the records of the later rules do

  module _ (s : List ℕ) (at : ℕ) (b B : Book) (w : Walk s at b B) where
    -- the step only grows
    step_grows : (x a : ℕ) → Within (step_arcs p q b.arcs x a) (step_arcs p q (with_record s at b).arcs x a)
    step_grows x a = go (ℕ_discrete (byte s at) arc_kind)
      where
        go : Dec (byte s at ≡ arc_kind) → Within (step_arcs p q b.arcs x a) (step_arcs p q (with_record s at b).arcs x a)
        go (yes k) = rw (arcs_more s at b k, turned_snoc) (within_left (step_arcs p q b.arcs x a) (hop_fold (turned p q (arc_at s at)) x a))
        go (no k) = rw (arcs_same s at b k) (or_self (step_arcs p q b.arcs x a))

    -- and of a state of an earlier rule it stays
    arc_past : (t a : ℕ) → t < b.first → byte s at ≡ arc_kind → hop_fold (turned p q (arc_at s at)) (2 ^ t) a ≡ 0
    unfolding turned
    arc_past t a h k =
        let v = arc_stands s at b B w k in
        hop_none (turned p q (arc_at s at)) t a
        (end_is (λ j. j ≢ t) p (arc_at s at) (λ e. absurd (omega (arith, v.from.0))) (λ e. absurd (omega (arith, v.to.0))))

    step_stays : (t a : ℕ) → t < b.first → step_arcs p q (with_record s at b).arcs (2 ^ t) a ≡ step_arcs p q b.arcs (2 ^ t) a
    step_stays t a h = go (ℕ_discrete (byte s at) arc_kind)
      where
        go : Dec (byte s at ≡ arc_kind) → step_arcs p q (with_record s at b).arcs (2 ^ t) a ≡ step_arcs p q b.arcs (2 ^ t) a
        go (yes k) =
            rw (arcs_more s at b k)
            (turned_snoc p q b.arcs (arc_at s at) (2 ^ t) a
            ∙ ap (bit_or (step_arcs p q b.arcs (2 ^ t) a)) (arc_past t a h k)
            ∙ or_zero_r (step_arcs p q b.arcs (2 ^ t) a))
        go (no k) = rw (arcs_same s at b k)

  grown : (s : List ℕ) (at : ℕ) (b B : Book) (x a y : ℕ) → Walk s at b B → Within y (step_arcs p q b.arcs x a) → Within y (step_arcs p q B.arcs x a)
  grown s at b B x a y w h =
      walk_ind s B (λ b'. Within y (step_arcs p q b'.arcs x a))
      (λ at' b' v f r. within_trans y (step_arcs p q b'.arcs x a) (step_arcs p q (with_record s at' b').arcs x a) r (step_grows s at' b' B v x a)) at b w h

  stayed : (s : List ℕ) (at : ℕ) (b B : Book) (t a : ℕ) → Walk s at b B → t < b.first → step_arcs p q B.arcs (2 ^ t) a ≡ step_arcs p q b.arcs (2 ^ t) a
  stayed s at b B t a w h =
      (walk_ind s B (λ b'. (t < b'.first) × (step_arcs p q b'.arcs (2 ^ t) a ≡ step_arcs p q b.arcs (2 ^ t) a))
      (λ at' b' v f r. (omega (arith, r.0, first_grows s at' b' B v), step_stays s at' b' B v t a r.0 ∙ r.1)) at b w (h, refl)).1

  -- ---- the sweep

  pub sweep_start : (s : List ℕ) (state place set a : ℕ) → (check_def s).reply ≡ 0 → place ≡ (state_of (book_of s) state).place → 0 < place
      → Sweeping p q s (book_of s) state set a 0 (place + state_size) (state + 1)
  sweep_start s state place set a z e h =
      subst (λ (n : ℕ). Sweeping p q s (book_of s) state set a 0 (n + state_size) (state + 1)) (sym e)
      (go (state_of (book_of s) state) (placed s state place z e h))
    where
      go : (st : State) → Found s (book_of s) state st → Sweeping p q s (book_of s) state set a 0 (st.place + state_size) (state + 1)
      go st f =
          let b = f.book in
          let k = f.kind in
          record {
            book = with_record s st.place b;
            walk = rw (size_state k) at (walk_more s st.place b (book_of s) f.walk (λ j. absurd (omega arith)));
            count = rw (states_more s st.place b k, length-append) (omega (arith, f.count));
            past = omega arith;
            within = refl;
            each = λ t l m. rw (arcs_same s st.place b (λ j. absurd (omega arith)), step_absent b t a f.walk.sound (omega (arith, f.count)));
          }

  module _ (s : List ℕ) (B : Book) (state set a out at next : ℕ) (i : Sweeping p q s B state set a out at next) where
    pub sweep_passed : Passed s at (scan_of i.book)
    sweep_passed = walk_passed s at i.book B i.walk

    -- the records are whole, and their states are in a set's reach
    pub sweep_ends : byte s at ≡ arc_kind → ArcPassed i.book (arc_at s at)
    sweep_ends k = arc_stands s at i.book B i.walk k

    pub sweep_arc : byte s at ≡ arc_kind → (at + arc_size ≤ length s) × ((byte s (at + from_at) < most_states) × (byte s (at + to_at) < most_states))
    sweep_arc k =
        let f = sweep_ends k in
        (omega (arith, sweep_passed.whole, size_arc k), (omega (arith, f.from.1, i.walk.sound.states), omega (arith, f.to.1, i.walk.sound.states)))

    pub sweep_state : byte s at ≡ state_kind → (at + state_size ≤ length s) × (next ≤ most_states)
    sweep_state k = (omega (arith, sweep_passed.whole, size_state k), omega (arith, i.count, i.walk.sound.states))

    pub sweep_turn_arc : (r : ℕ) → byte s at ≡ arc_kind → r ≡ hop_fold (turned p q (arc_at s at)) set a
        → Sweeping p q s B state set a (bit_or out r) (at + arc_size) next
    sweep_turn_arc r k e =
        let b = i.book in
        let x = turned p q (arc_at s at) in
        record {
          book = with_record s at b;
          walk = rw (size_arc k) at (walk_more s at b B i.walk (λ j. absurd (omega arith)));
          count = rw (states_same s at b (λ j. absurd (omega arith))) i.count;
          past = i.past;
          within =
              rw (arcs_more s at b k, turned_snoc, e)
              (within_or out (hop_fold x set a) (step_arcs p q b.arcs set a) (hop_fold x set a) i.within (or_self (hop_fold x set a)));
          each =
              λ t l m. rw (arcs_more s at b k, turned_snoc, e)
              (within_or (step_arcs p q b.arcs (2 ^ t) a) (hop_fold x (2 ^ t) a) out (hop_fold x set a) (i.each t l m)
              (hop_within x (2 ^ t) set a (one_within set t m)));
        }

    pub sweep_turn_state : byte s at ≡ state_kind → Sweeping p q s B state set a out (at + state_size) (next + 1)
    sweep_turn_state k =
        let b = i.book in
        let same = arcs_same s at b (λ j. absurd (omega arith)) in
        record {
          book = with_record s at b;
          walk = rw (size_state k) at (walk_more s at b B i.walk (λ j. absurd (omega arith)));
          count = rw (states_more s at b k, length-append) (omega (arith, i.count));
          past = omega (arith, i.past);
          within = rw same i.within;
          each = λ t l m. rw same (i.each t l m);
        }

    -- the next rule or the book's end ends the rule
    swept : ((t : ℕ) → t < next → step_arcs p q B.arcs (2 ^ t) a ≡ step_arcs p q i.book.arcs (2 ^ t) a) → SweptAll p q B.arcs state set a out next
    swept same =
        record {
          past = i.past;
          within = grown s at i.book B set a out i.walk i.within;
          each = λ t l h m. rw (same t h) (i.each t l m);
        }

    pub sweep_end : (byte s at ≡ rule_kind) ⊎ (byte s at ≡ end_kind) → SweptAll p q B.arcs state set a out next
    sweep_end (inl k) =
        let b = i.book in
        swept (λ t h. stayed s _ _ B t a (walk_more s at b B i.walk (λ j. absurd (omega arith))) (rw (first_rule s at b k) (omega (arith, i.count)))
        ∙ ap (λ (x : List Arc). step_arcs p q x (2 ^ t) a) (arcs_same s at b (λ j. absurd (omega arith))))
    sweep_end (inr k) = swept (λ t h. ap (λ (x : Book). step_arcs p q x.arcs (2 ^ t) a) (sym (walk_last s at i.book B i.walk k)))

    -- and no other record is there
    pub sweep_none : record_size (byte s at) ≡ 0 → SweptAll p q B.arcs state set a out next
    sweep_none e = absurd (sweep_passed.known e)

  -- ---- the step of a set

  pub stepping_start : (arcs : List Arc) (set a : ℕ) → set < 2 ^ 64 → Stepping p q arcs set a set 0 0
  stepping_start arcs set a h = record { small = h; of_set = or_self set; whole = refl; near = λ t m l. absurd (omega arith) }

  pub stepping_end : (arcs : List Arc) (set a left out done : ℕ) → left ≡ 0 → Stepping p q arcs set a left out done → out ≡ step_arcs p q arcs set a
  unfolding step_arcs
  stepping_end arcs set a left out done e i = step_end (map (turned p q) arcs) left out a (step_arcs p q arcs set a) e i.whole

  module _ (arcs : List Arc) (set a left out done : ℕ) (h : 0 < left) (i : Stepping p q arcs set a left out done) where
    -- the lowest state is taken away, and what it gives is out
    turn_to : (more next : ℕ) → Within out more → Within more (step_arcs p q arcs set a) → Within (step_arcs p q arcs (2 ^ count_trailing_zeros 64 left) a) more
        → ((t : ℕ) → member (without left) t ≡ true → t < next → Within (step_arcs p q arcs (2 ^ t) a) more)
        → Stepping p q arcs set a (without left) more next
    turn_to more next o m r near =
        record {
          small = and_lt 64 left (left - 1) i.small (omega (arith, i.small));
          of_set = within_trans (without left) left set rest_left i.of_set;
          whole = same_within (bit_or more (S (without left))) (S set) (within_both more (S (without left)) (S set) m below) above;
          near = near;
        }
      where
        S : ℕ → ℕ
        S x = step_arcs p q arcs x a

        t : ℕ
        t = count_trailing_zeros 64 left

        split : bit_or (2 ^ t) (without left) ≡ left
        split = lowest_or 64 left t (lowest 64 left h i.small)

        rest_left : Within (without left) left
        rest_left = subst (Within (without left)) split (within_right (2 ^ t) (without left))

        below : Within (S (without left)) (S set)
        below = step_within arcs (without left) set a (within_trans (without left) left set rest_left i.of_set)

        parts : bit_or out (bit_or (S (2 ^ t)) (S (without left))) ≡ S set
        parts = ap (bit_or out) (sym (step_or_arcs arcs (2 ^ t) (without left) a) ∙ ap S split) ∙ i.whole

        above : Within (S set) (bit_or more (S (without left)))
        above =
            subst (λ (x : ℕ). Within x (bit_or more (S (without left)))) parts
            (within_both out (bit_or (S (2 ^ t)) (S (without left))) (bit_or more (S (without left)))
            (within_trans out more (bit_or more (S (without left))) o (within_left more (S (without left))))
            (within_or (S (2 ^ t)) (S (without left)) more (S (without left)) r (or_self (S (without left)))))

    out_within : Within out (step_arcs p q arcs set a)
    out_within = subst (Within out) i.whole (within_left out (step_arcs p q arcs left a))

    -- a state whose step is out
    turn_kept : Within (step_arcs p q arcs (2 ^ count_trailing_zeros 64 left) a) out → Stepping p q arcs set a (without left) out done
    turn_kept r =
        turn_to out done (or_self out) out_within r
        (λ t m l. i.near t (rest_above 64 left (count_trailing_zeros 64 left) t (lowest 64 left h i.small) m).0 l)

    -- as that of each state below `done` is
    pub turn_done : count_trailing_zeros 64 left < done → Stepping p q arcs set a (without left) out done
    turn_done l = turn_kept (i.near (count_trailing_zeros 64 left) (lowest 64 left h i.small).is_in l)

    -- a number of no state
    pub turn_none : step_arcs p q arcs (2 ^ count_trailing_zeros 64 left) a ≡ 0 → Stepping p q arcs set a (without left) out done
    turn_none e = turn_kept (ap (λ (x : ℕ). bit_or x out) e)

    -- a state from whose record on its rule is read
    pub turn_swept : (more next : ℕ) → SweptAll p q arcs (count_trailing_zeros 64 left) set a more next → Stepping p q arcs set a (without left) (bit_or out more) next
    turn_swept more next w =
        turn_to (bit_or out more) next (within_left out more) (within_both out more (step_arcs p q arcs set a) out_within w.within)
        (all (count_trailing_zeros 64 left) (omega arith) w.past low.is_in)
        (λ t m l. let z = rest_above 64 left (count_trailing_zeros 64 left) t low m in all t z.1 l z.0)
      where
        low : Lowest 64 left (count_trailing_zeros 64 left)
        low = lowest 64 left h i.small

        all : (t : ℕ) → count_trailing_zeros 64 left ≤ t → t < next → member left t ≡ true → Within (step_arcs p q arcs (2 ^ t) a) (bit_or out more)
        all t l k m =
            within_trans (step_arcs p q arcs (2 ^ t) a) more (bit_or out more) (w.each t l k (within_member left set t i.of_set m)) (within_right out more)

  -- at place 0 there is no state, and no arc leaves it
  pub none_placed : (s : List ℕ) (state place a : ℕ) → (check_def s).reply ≡ 0 → place ≡ (state_of (book_of s) state).place → place ≡ 0
      → step_arcs p q (book_of s).arcs (2 ^ state) a ≡ 0
  none_placed s state place a z e h = go (dec_lt state (length (book_of s).states))
    where
      go : Dec (state < length (book_of s).states) → step_arcs p q (book_of s).arcs (2 ^ state) a ≡ 0
      go (yes l) = absurd (omega (arith, found_place s (book_of s) state _ (found s (book_of s) (walk_start s z) state l)))
      go (no l) = step_absent (book_of s) state a (accepted_sound s (book_of s) (is_accepted s z)) (omega arith)
