-- The masks as far as a walk over the records has come: each holds the states so far that its test passes, a state's record adds its state where the
-- test passes it, and no other record adds one. One law serves all masks; what each of them holds in the end is read off its test. Assumes
-- nothing.
use Prim.Native.Nat.{ℕ, zero, suc, ◌+◌, ◌^◌, ◌≤◌, ◌<◌}
use mathlib.Core.Path.{◌≡◌, refl, ap, ap₂, sym, subst, ◌∙◌}
use mathlib.Core.Logic.{◌≢◌, by_cases}
use mathlib.Core.Bool.{Bool, true, false, cond, ◌&&◌, ◌||◌}
use mathlib.Core.Bool as B
use mathlib.Core.List.{List, [], ◌∷◌, ◌++◌}
use native.Mathlib.Decide.{ℕ_discrete, dec_lt}
use native.Mathlib.Nat.{zero-add}
use native.Mathlib.Omega.{arith}
use lib.Pow.{pow-lt, pow_pos}
use lib.Dec.{eqb}
use lib.Bits.{bit_or, or_lt, or_zero_r, or_self}
use native.Mathlib.Numerals.{add-one}
use lib.ListN.{length, take, get_or, set, length-set, get_or-eq_default}
use lib.Seq.{take-suc, get_or-set_same, get_or-set_other, get_or-append_seam}
use borrow.Author.Tests.{eqb-true, eqb-false, eq-eqb, ne_eqb}
use Rattle.book.specs.StateSets.{member, encode}
use Rattle.book.proofs.Bits.{or_assoc, member_or, member_one, member_none, member_encode, encode_lt, is_encode}
use Rattle.book.specs.Format.{most_rules, most_states, state_kind, left_part, focus_part, right_part, start_flag, accept_flag, part_at, flags_at, byte, pad}
use Rattle.book.specs.Reading.{State, Book, state_at, with_record}
use Rattle.book.proofs.Sound.{kind_state, state_fits}
use Rattle.book.proofs.Walk.{Walk, walk_passed, states_more}
use Rattle.book.specs.Language.{no_state, state_of, flagged, is_of}
use Rattle.book.specs.Sound.{Sound}
use Rattle.book.specs.Outline.{left_accepts, focus_starts, focus_accepts, right_starts, all_starts, all_accepts, left_starts, right_accepts}
use Rattle.book.specs.Outline.{passes, rule_mask, all_mask, mask_count, Masked, Joined, in_rule, in_all, state_bits}
use Rattle.book.proofs.Pad.{zeros, pad_nil, length_pad}
use Rattle.book.proofs.Placing.{snoc_other}

pub member_cond : (b : Bool) (p t : ℕ) → member (cond b (2 ^ p) 0) t ≡ (b && eqb t p)
member_cond true p t = member_one p t
member_cond false p t = member_none t

cond_lt : (b : Bool) (n k : ℕ) → n < k → cond b (2 ^ n) 0 < 2 ^ k
cond_lt true n k h = pow-lt h
cond_lt false n k h = pow_pos k

-- one state more in a set
pub encode_put : (p q : ℕ → Bool) (n : ℕ) (c : Bool) → n < most_states → p n ≡ false → q n ≡ c → ((s : ℕ) → s ≢ n → q s ≡ p s)
    → encode q most_states ≡ bit_or (encode p most_states) (cond c (2 ^ n) 0)
encode_put p q n c h e f g =
    let x = encode p most_states in
    let y = cond c (2 ^ n) 0 in
    sym (is_encode q most_states (bit_or x y) (or_lt most_states x y (encode_lt p most_states) (cond_lt c n most_states h))
    (λ s l. member_or x y s ∙ ap₂ (λ (u v : Bool). u || v) (member_encode p most_states s l) (member_cond c n s) ∙ pick s (eqb s n) refl))
  where
    pick : (s : ℕ) (b : Bool) → eqb s n ≡ b → (p s || c && b) ≡ q s
    pick s true k =
        let z = eqb-true s n k in
        ap (λ (x : Bool). x || c && true) (ap p z ∙ e) ∙ B.and-true c ∙ sym (ap q z ∙ f)
    pick s false k = ap (λ (x : Bool). p s || x) (B.and-false c) ∙ B.or-false (p s) ∙ sym (g s (eqb-false s n k))

-- no state starts or accepts where there is none
pub unflagged : (flag : ℕ) → flagged flag 0 ≡ false
unfolding flagged
unflagged zero = refl
unflagged (suc flag) = rw (ne_eqb 0 (suc flag) (λ e. omega arith)) (B.and-false (eqb (suc flag) start_flag || eqb (suc flag) accept_flag))

pub no_state_lem : (part flag : ℕ) → is_of part flag no_state ≡ false
no_state_lem part flag = ap (λ (b : Bool). eqb 0 part && b) (unflagged flag) ∙ B.and-false (eqb 0 part)

-- the states that pass a test, and with one state more
abbrev pub passing : (State → Bool) → List State → ℕ
passing f states = encode (λ k. f (get_or states k no_state)) most_states

put : (f : State → Bool) → f no_state ≡ false → (states : List State) (st : State) → length states < most_states
    → passing f (states ++ (st ∷ [])) ≡ bit_or (passing f states) (cond (f st) (2 ^ length states) 0)
put f z states st h =
    encode_put (λ k. f (get_or states k no_state)) (λ k. f (get_or (states ++ (st ∷ [])) k no_state)) (length states) (f st) h
    (ap f (get_or-eq_default states no_state {n = length states} (omega arith)) ∙ z)
    (ap f (get_or-append_seam states st [] no_state))
    (λ s g. ap f (snoc_other states st no_state s g))

-- tests that agree on the states pass the same ones
passing_same : (f g : State → Bool) (states : List State) → ((k : ℕ) → f (get_or states k no_state) ≡ g (get_or states k no_state))
    → passing f states ≡ passing g states
passing_same f g states e =
    is_encode (λ k. g (get_or states k no_state)) most_states (passing f states) (encode_lt (λ k. f (get_or states k no_state)) most_states)
    (λ s l. member_encode (λ k. f (get_or states k no_state)) most_states s l ∙ e s)

-- before the first record
passing_none : (f : State → Bool) → f no_state ≡ false → passing f [] ≡ 0
passing_none f z = sym (is_encode (λ k. f (get_or [] k no_state)) most_states 0 (omega arith) (λ s l. member_none s ∙ sym z))

-- the test of mask j
unfoldable pub holds : ℕ → State → Bool
holds j x = in_rule x.part x.flags x.rule j || in_all x.part x.flags j

none_holds : (j : ℕ) → holds j no_state ≡ false
unfolding holds in_rule in_all
none_holds j =
    simp (no_state_lem left_part accept_flag, no_state_lem left_part start_flag, B.and-false)

-- a state is added to one mask, or to none
joined_here : (y i : ℕ) (l : List ℕ) → i < length l → Joined (λ j. cond (eqb j i && true) y 0) l (set l i (bit_or (get_or l i 0) y))
joined_here y i l h = record { same = length-set l i (bit_or (get_or l i 0) y); each = λ j. one j (ℕ_discrete j i) }
  where
    one : (j : ℕ) → Dec (j ≡ i) → get_or (set l i (bit_or (get_or l i 0) y)) j 0 ≡ bit_or (get_or l j 0) (cond (eqb j i && true) y 0)
    one j (yes p) =
        ap (λ (x : ℕ). get_or (set l i (bit_or (get_or l i 0) y)) x 0) p
        ∙ get_or-set_same l i (bit_or (get_or l i 0) y) 0 h
        ∙ ap₂ bit_or (ap (λ (x : ℕ). get_or l x 0) (sym p)) (ap (λ (b : Bool). cond (b && true) y 0) (sym (eq-eqb j i p)))
    one j (no p) =
        get_or-set_other l i j (bit_or (get_or l i 0) y) 0 p
        ∙ sym (or_zero_r (get_or l j 0))
        ∙ ap (λ (b : Bool). bit_or (get_or l j 0) (cond (b && true) y 0)) (sym (ne_eqb j i p))

joined_none : (m : ℕ → Bool) (y : ℕ) (l : List ℕ) → ((j : ℕ) → m j ≡ false) → Joined (λ j. cond (m j) y 0) l l
joined_none m y l f = record { same = refl; each = λ j. sym (ap (λ (b : Bool). bit_or (get_or l j 0) (cond b y 0)) (f j) ∙ or_zero_r (get_or l j 0)) }

-- and to several, by one test after the other
two_bits : (a b : Bool) (x y : ℕ) → bit_or (bit_or x (cond a y 0)) (cond b y 0) ≡ bit_or x (cond (a || b) y 0)
two_bits true true x y = or_assoc x y y ∙ ap (bit_or x) (or_self y)
two_bits true false x y = or_zero_r (bit_or x y)
two_bits false b x y = ap (λ (z : ℕ). bit_or z (cond b y 0)) (or_zero_r x)

joined_two : (p q : ℕ → Bool) (y : ℕ) (l l' l'' : List ℕ) → Joined (λ j. cond (p j) y 0) l l' → Joined (λ j. cond (q j) y 0) l' l''
    → Joined (λ j. cond (p j || q j) y 0) l l''
joined_two p q y l l' l'' a b = record {
  same = b.same ∙ a.same;
  each = λ j. b.each j ∙ ap (λ (x : ℕ). bit_or x (cond (q j) y 0)) (a.each j) ∙ two_bits (p j) (q j) (get_or l j 0) y;
}

joined_same : (p q : ℕ → Bool) (y : ℕ) (l l' : List ℕ) → ((j : ℕ) → p j ≡ q j) → Joined (λ j. cond (p j) y 0) l l' → Joined (λ j. cond (q j) y 0) l l'
joined_same p q y l l' f a = record { same = a.same; each = λ j. a.each j ∙ ap (λ (b : Bool). bit_or (get_or l j 0) (cond b y 0)) (f j) }

-- A table of masks: the part and the flag of each mask's states, and where it stands. A state with that part and those flags is put to mask j by one
-- of its lines.
pub hits : List (ℕ × ℕ × ℕ) → ℕ → ℕ → ℕ → Bool
hits [] p f j = false
hits (e ∷ t) p f j = eqb j e.2 && passes e.0 e.1 p f || hits t p f j

or_assoc_bool : (a b c : Bool) → (a || (b || c)) ≡ ((a || b) || c)
or_assoc_bool true b c = refl
or_assoc_bool false b c = refl

hits_more : (t : List (ℕ × ℕ × ℕ)) (e : ℕ × ℕ × ℕ) (p f j : ℕ) → hits (t ++ (e ∷ [])) p f j ≡ (hits t p f j || eqb j e.2 && passes e.0 e.1 p f)
unfolding hits
hits_more [] e p f j = B.or-false _
hits_more (x ∷ t) e p f j = ap (λ (b : Bool). eqb j x.2 && passes x.0 x.1 p f || b) (hits_more t e p f j) ∙ or_assoc_bool (eqb j x.2 && passes x.0 x.1 p f) _ _

-- the lines so far
module _ (p f y : ℕ) (l : List ℕ) where
  abbrev pub Hit : List (ℕ × ℕ × ℕ) → List ℕ → Type 0
  Hit t m = Joined (λ j. cond (hits t p f j) y 0) l m

  pub hit_none : Hit [] l
  unfolding hits
  hit_none = joined_none (λ j. false) y l (λ j. refl)

  module _ (t : List (ℕ × ℕ × ℕ)) (e : ℕ × ℕ × ℕ) (m : List ℕ) (h : Hit t m) where
    hit_here : passes e.0 e.1 p f ≡ true → e.2 < length m → Hit (t ++ (e ∷ [])) (set m e.2 (bit_or (get_or m e.2 0) y))
    hit_here g i =
        joined_same (λ j. hits t p f j || eqb j e.2 && true) (hits (t ++ (e ∷ [])) p f) y l _
        (λ j. ap (λ (b : Bool). hits t p f j || eqb j e.2 && b) (sym g) ∙ sym (hits_more t e p f j))
        (joined_two (hits t p f) (λ j. eqb j e.2 && true) y l m _ h (joined_here y e.2 m i))

    hit_other : passes e.0 e.1 p f ≡ false → Hit (t ++ (e ∷ [])) m
    hit_other g =
        joined_same (hits t p f) (hits (t ++ (e ∷ [])) p f) y l m
        (λ j. sym (ap (λ (b : Bool). hits t p f j || eqb j e.2 && b) g ∙ ap (λ (b : Bool). hits t p f j || b) (B.and-false (eqb j e.2))
        ∙ B.or-false (hits t p f j)) ∙ sym (hits_more t e p f j))
        h

  module _ (t : List (ℕ × ℕ × ℕ)) (i : ℕ) (d : ℕ × ℕ × ℕ) (m : List ℕ) (h : Hit (take i t) m) (inside : i < length t) where
    pub line_here : passes (get_or t i d).0 (get_or t i d).1 p f ≡ true → (get_or t i d).2 < length m
        → Hit (take (i + 1) t) (set m (get_or t i d).2 (bit_or (get_or m (get_or t i d).2 0) y))
    line_here g k = rw (add-one, take-suc t i d inside) (hit_here (take i t) (get_or t i d) m h g k)

    pub line_other : passes (get_or t i d).0 (get_or t i d).1 p f ≡ false → Hit (take (i + 1) t) m
    line_other g = rw (add-one, take-suc t i d inside) (hit_other (take i t) (get_or t i d) m h g)

eight : (a b c d e f g h : Bool) → (a || (b || (c || (d || (e || (f || (g || (h || false)))))))) ≡ ((a || b || c || d) || (e || f || g || h))
eight true b c d e f g h = refl
eight false true c d e f g h = refl
eight false false true d e f g h = refl
eight false false false true e f g h = refl
eight false false false false true f g h = refl
eight false false false false false true g h = refl
eight false false false false false false true h = refl
eight false false false false false false false h = B.or-false h

-- the table of a rule's masks and of all rules', at its end
abbrev mask_table : ℕ → ℕ → List (ℕ × ℕ × ℕ)
mask_table i r =
    (left_part, accept_flag, i) ∷ (focus_part, start_flag, focus_starts r) ∷ (focus_part, accept_flag, focus_accepts r) ∷ (right_part, start_flag, right_starts r)
    ∷ (focus_part, start_flag, all_starts) ∷ (focus_part, accept_flag, all_accepts) ∷ (left_part, start_flag, left_starts) ∷ (right_part, accept_flag, right_accepts)
    ∷ []

pub hit_all : (s : List ℕ) (at k r p f y i : ℕ) (l m : List ℕ) → p ≡ byte s (at + part_at) → f ≡ byte s (at + flags_at) → y ≡ 2 ^ k → i ≡ 8
    → Hit p f y l (take i (mask_table (0 + r) r)) m
    → Joined (state_bits s at k r) l m
unfolding hits state_bits in_rule in_all
hit_all s at k r p f y i l m a b c d h =
    let all : Hit p f y l (mask_table r r) m =
    subst (λ (x : ℕ). Hit p f y l (mask_table x r) m) (zero-add r) (subst (λ (x : ℕ). Hit p f y l (take x (mask_table (0 + r) r)) m) d h) in
    let here : Hit (byte s (at + part_at)) (byte s (at + flags_at)) (2 ^ k) l (mask_table r r) m =
    subst (λ (x : ℕ). Hit (byte s (at + part_at)) (byte s (at + flags_at)) x l (mask_table r r) m) c
    (subst (λ (x : ℕ). Hit (byte s (at + part_at)) x y l (mask_table r r) m) b (subst (λ (x : ℕ). Hit x f y l (mask_table r r) m) a all)) in
    joined_same (hits (mask_table r r) (byte s (at + part_at)) (byte s (at + flags_at)))
    (λ j. in_rule (byte s (at + part_at)) (byte s (at + flags_at)) r j || in_all (byte s (at + part_at)) (byte s (at + flags_at)) j) (2 ^ k) l m (λ j.
    eight (test left_part accept_flag (left_accepts r) j) (test focus_part start_flag (focus_starts r) j) (test focus_part accept_flag (focus_accepts r) j)
    (test right_part start_flag (right_starts r) j) (test focus_part start_flag all_starts j) (test focus_part accept_flag all_accepts j)
    (test left_part start_flag left_starts j) (test right_part accept_flag right_accepts j)) here
  where
    test : ℕ → ℕ → ℕ → ℕ → Bool
    test part flag i j = eqb j i && passes part flag (byte s (at + part_at)) (byte s (at + flags_at))

-- the masks of the states so far
pub record Masking (states : List State) (masks : List ℕ) : Type 0 where
  pub long : length masks ≡ mask_count
  pub each : (j : ℕ) → j < mask_count → get_or masks j 0 ≡ passing (holds j) states

pub masking_start : (masks : List ℕ) → masks ≡ pad mask_count [] → Masking [] masks
masking_start masks e = record {
  long = ap length e ∙ length_pad mask_count [] (omega arith);
  each = λ j h. ap (λ (l : List ℕ). get_or l j 0) (e ∙ pad_nil mask_count) ∙ zeros mask_count j ∙ sym (passing_none (holds j) (none_holds j));
}

-- a record more
module _ (s : List ℕ) (at : ℕ) (b B : Book) (w : Walk s at b B) where
  pub state_rule : byte s at ≡ state_kind → (length b.states < most_states) × (0 < length b.words)
  state_rule k = let z = state_fits _ _ _ _ 0 0 (kind_state s at b (walk_passed s at b B w).kind k) in (z.0, z.1)

  pub masking_more : (r : ℕ) (l l' : List ℕ) → byte s at ≡ state_kind → r + 1 ≡ length b.words → Joined (state_bits s at (length b.states) r) l l'
      → Masking b.states l → Masking (with_record s at b).states l'
  unfolding state_bits holds
  masking_more r l l' k e p m =
      let st = state_at s at b in
      let same : st.rule ≡ r = omega arith in
      let p' : Joined (λ j. cond (holds j st) (2 ^ length b.states) 0) l l' = rw same p in
      rw (states_more s at b k) (record {
        long = p'.same ∙ m.long;
        each = λ j h.
            p'.each j ∙ ap (λ (x : ℕ). bit_or x (cond (holds j st) (2 ^ length b.states) 0)) (m.each j h)
            ∙ sym (put (holds j) (none_holds j) b.states st (state_rule k).0);
      })

-- what each mask holds, read off its test
same_test : (r a m n : ℕ) → (r ≡ a → m ≡ n) → (m ≡ n → r ≡ a) → eqb m n ≡ eqb a r
same_test r a m n f g = go (ℕ_discrete m n)
  where
    go : Dec (m ≡ n) → eqb m n ≡ eqb a r
    go (yes e) = eq-eqb m n e ∙ sym (eq-eqb a r (sym (g e)))
    go (no e) = ne_eqb m n e ∙ sym (ne_eqb a r (λ z. e (f (sym z))))

no_all : (p f j : ℕ) → j < all_starts → in_all p f j ≡ false
unfolding in_all
no_all p f j h =
    simp (
      ne_eqb j all_starts (λ e. omega arith),
      ne_eqb j all_accepts (λ e. omega arith),
      ne_eqb j left_starts (λ e. omega arith),
      ne_eqb j right_accepts (λ e. omega arith),
    )

module _ (x : State) (small : x.rule < most_rules) where
  no_rule_lem : (j : ℕ) → all_starts ≤ j → in_rule x.part x.flags x.rule j ≡ false
  unfolding in_rule
  no_rule_lem j h =
      simp (
        ne_eqb j (left_accepts x.rule) (λ e. omega arith),
        ne_eqb j (focus_starts x.rule) (λ e. omega arith),
        ne_eqb j (focus_accepts x.rule) (λ e. omega arith),
        ne_eqb j (right_starts x.rule) (λ e. omega arith),
      )

  module _ (r : ℕ) (h : r < most_rules) where
    at_left_accepts : holds (left_accepts r) x ≡ (eqb x.rule r && is_of left_part accept_flag x)
    unfolding holds in_rule
    at_left_accepts =
        let j = left_accepts r in
        simp (
          same_test r x.rule j (left_accepts x.rule) (λ e. omega arith) (λ e. omega arith),
          ne_eqb j (focus_starts x.rule) (λ e. omega arith),
          ne_eqb j (focus_accepts x.rule) (λ e. omega arith),
          ne_eqb j (right_starts x.rule) (λ e. omega arith),
          no_all x.part x.flags j (omega arith),
          B.or-false,
        )

    at_focus_starts : holds (focus_starts r) x ≡ (eqb x.rule r && is_of focus_part start_flag x)
    unfolding holds in_rule
    at_focus_starts =
        let j = focus_starts r in
        simp (
          ne_eqb j (left_accepts x.rule) (λ e. omega arith),
          same_test r x.rule j (focus_starts x.rule) (λ e. omega arith) (λ e. omega arith),
          ne_eqb j (focus_accepts x.rule) (λ e. omega arith),
          ne_eqb j (right_starts x.rule) (λ e. omega arith),
          no_all x.part x.flags j (omega arith),
          B.or-false,
        )

    at_focus_accepts : holds (focus_accepts r) x ≡ (eqb x.rule r && is_of focus_part accept_flag x)
    unfolding holds in_rule
    at_focus_accepts =
        let j = focus_accepts r in
        simp (
          ne_eqb j (left_accepts x.rule) (λ e. omega arith),
          ne_eqb j (focus_starts x.rule) (λ e. omega arith),
          same_test r x.rule j (focus_accepts x.rule) (λ e. omega arith) (λ e. omega arith),
          ne_eqb j (right_starts x.rule) (λ e. omega arith),
          no_all x.part x.flags j (omega arith),
          B.or-false,
        )

    at_right_starts : holds (right_starts r) x ≡ (eqb x.rule r && is_of right_part start_flag x)
    unfolding holds in_rule
    at_right_starts =
        let j = right_starts r in
        simp (
          ne_eqb j (left_accepts x.rule) (λ e. omega arith),
          ne_eqb j (focus_starts x.rule) (λ e. omega arith),
          ne_eqb j (focus_accepts x.rule) (λ e. omega arith),
          same_test r x.rule j (right_starts x.rule) (λ e. omega arith) (λ e. omega arith),
          no_all x.part x.flags j (omega arith),
          B.or-false,
        )

  at_all_starts : holds all_starts x ≡ is_of focus_part start_flag x
  unfolding holds in_all
  at_all_starts = simp (no_rule_lem all_starts (omega arith), B.or-false)

  at_all_accepts : holds all_accepts x ≡ is_of focus_part accept_flag x
  unfolding holds in_all
  at_all_accepts = simp (no_rule_lem all_accepts (omega arith), B.or-false)

  at_left_starts : holds left_starts x ≡ is_of left_part start_flag x
  unfolding holds in_all
  at_left_starts = simp (no_rule_lem left_starts (omega arith), B.or-false)

  at_right_accepts : holds right_accepts x ≡ is_of right_part accept_flag x
  unfolding holds in_all
  at_right_accepts = simp (no_rule_lem right_accepts (omega arith))

-- the masks of an accepted book's states
pub masked : (b : Book) (masks : List ℕ) → Sound b → Masking b.states masks → Masked b.states masks
unfolding rule_mask all_mask
masked b masks o m = record {
  long = m.long;
  left_accepts_lem = λ r h.
      m.each (left_accepts r) (omega arith)
      ∙ passing_same (holds (left_accepts r)) (λ x. eqb x.rule r && is_of left_part accept_flag x) b.states (λ k. at_left_accepts (state_of b k) (small k)
      r h);
  focus_starts_lem = λ r h.
      m.each (focus_starts r) (omega arith)
      ∙ passing_same (holds (focus_starts r)) (λ x. eqb x.rule r && is_of focus_part start_flag x) b.states (λ k. at_focus_starts (state_of b k) (small k)
      r h);
  focus_accepts_lem = λ r h.
      m.each (focus_accepts r) (omega arith)
      ∙ passing_same (holds (focus_accepts r)) (λ x. eqb x.rule r && is_of focus_part accept_flag x) b.states (λ k. at_focus_accepts (state_of b k) (small
      k) r h);
  right_starts_lem = λ r h.
      m.each (right_starts r) (omega arith)
      ∙ passing_same (holds (right_starts r)) (λ x. eqb x.rule r && is_of right_part start_flag x) b.states (λ k. at_right_starts (state_of b k) (small k)
      r h);
  all_starts_lem =
      m.each all_starts (omega arith) ∙ passing_same (holds all_starts) (is_of focus_part start_flag) b.states (λ k. at_all_starts (state_of b k) (small k));
  all_accepts_lem =
      m.each all_accepts (omega arith) ∙ passing_same (holds all_accepts) (is_of focus_part accept_flag) b.states
      (λ k. at_all_accepts (state_of b k) (small k));
  left_starts_lem =
      m.each left_starts (omega arith) ∙ passing_same (holds left_starts) (is_of left_part start_flag) b.states (λ k. at_left_starts (state_of b k) (small k));
  right_accepts_lem =
      m.each right_accepts (omega arith) ∙ passing_same (holds right_accepts) (is_of right_part accept_flag) b.states (λ k. at_right_accepts (state_of b k)
      (small k));
}
  where
    small : (k : ℕ) → (state_of b k).rule < most_rules
    small k = by_cases (dec_lt k (length b.states)) (λ h. omega (arith, o.rule k h, o.rules))
        (λ h. let e : state_of b k ≡ no_state = get_or-eq_default b.states no_state {n = k} (omega arith) in rw e (omega arith))
