-- Every accepted book is sound: by induction over its records, each of which passed its tests. Assumes nothing.
use Prim.Native.Nat.{ℕ, zero, suc, ◌+◌, ◌-◌, ◌≤◌, ◌<◌, min}
use native.Mathlib.Decide.{dec_lt}
use mathlib.Core.Path.{◌≡◌, sym, subst, ◌∙◌}
use mathlib.Core.List.{List, [], ◌∷◌, ◌++◌, map, Memᴰ}
use mathlib.Core.Bool.{true, not}
use native.Mathlib.Omega.{arith}
use lib.ListN.{length, get_or, drop, length-take, length-append, get_or-append, get_or-map}
use lib.Seq.{get_or-take, get_or-drop}
use lib.Dec.{leb, ltb, eqb}
use borrow.Author.Tests.{ltb-true, ltb-false, leb-false, eqb-true, eqb-false, not-false, lt-ltb}
use Rattle.book.specs.Language.{no_state, state_of}
use Rattle.book.specs.Format.{symbol_count, most_rules, most_states, most_arcs, longest_word, rule_kind, state_kind, arc_kind, right_part}
use Rattle.book.specs.Format.{both_flags, length_at, symbols_at, part_at, flags_at, from_at, low_at, high_at, to_at, byte, symbol_fits, symbols_fit}
use Rattle.book.specs.Format.{rule_reply, state_reply, given, arc_reply, kind_reply, record_reply}
use Rattle.book.specs.Reading.{State, Arc, Book, empty, part_of, scan_of, word_at, state_at, arc_at, with_rule, with_state, with_arc, with_record}
use Rattle.book.specs.Reading.{read_book, accepted}
use Rattle.book.specs.Sound.{no_arc, arc_of, WordFits, StateFits, ArcFits, Sound}
use Rattle.book.proofs.Passed.{test_passed, kind_rel, passed}
use Rattle.book.proofs.Laws.{and_left, and_right, given_below, given_from}
use Rattle.book.proofs.Accepted.{accepted_ind}

-- a list with one element more
pub at_snoc : {A : Type 0} (P : ℕ → A → Type 0) (l : List A) (x d : A) → ((k : ℕ) → k < length l → P k (get_or l k d)) → P (length l) x
    → (k : ℕ) → k < length (l ++ (x ∷ [])) → P k (get_or (l ++ (x ∷ [])) k d)
at_snoc P [] x d f p zero h = p
at_snoc P [] x d f p (suc k) h = let w : ⊥ = omega arith in absurd w
at_snoc P (a ∷ l) x d f p zero h = f zero (omega arith)
at_snoc P (a ∷ l) x d f p (suc k) h = at_snoc (λ j. P (suc j)) l x d (λ j g. f (suc j) (omega arith)) p k (omega arith)

-- what a passed record says of its fields
pub state_fits : (part flags rules states : ℕ) (r p : ℕ) → state_reply part flags rules states ≡ 0
    → (states < most_states) × (0 < rules) × StateFits (record { rule = r; part = part; flags = flags; place = p })
unfolding state_reply
state_fits part flags rules states r p e =
    let a = test_passed (eqb rules 0) 3 _ e in
    let b = test_passed (leb most_states states) 2 _ a.1 in
    let c = test_passed (ltb right_part part) 4 _ b.1 in
    let d = test_passed (ltb both_flags flags) 4 _ c.1 in
    let z = eqb-false rules 0 a.0 in (
      leb-false most_states states b.0,
      omega (arith, z),
      record {
        part = ltb-false right_part part c.0;
        flags = ltb-false both_flags flags d.0;
      },
    )

-- each symbol of a word that fits
symbol_of_lem : (s : List ℕ) (p n m : ℕ) → symbols_fit s p n m ≡ true → (i : ℕ) → i < m → symbol_fits n i (byte s (p + i)) ≡ true
unfolding symbols_fit
symbol_of_lem s p n zero e i h = let z : ⊥ = omega arith in absurd z
symbol_of_lem s p n (suc m) e i h = pick (dec_lt i m) (λ l. symbol_of_lem s p n m (and_left _ _ e) i l)
  where
    pick : Dec (i < m) → (i < m → symbol_fits n i (byte s (p + i)) ≡ true) → symbol_fits n i (byte s (p + i)) ≡ true
    pick (yes l) f = f l
    pick (no g) f = let q : i ≡ m = omega arith in rw q (and_right (symbols_fit s p n m) _ e)

symbol_low : (n i x : ℕ) → symbol_fits n i x ≡ true → i < n → x < symbol_count
unfolding symbol_fits
symbol_low n i x e h = ltb-true x symbol_count (rw (lt-ltb i n h) at e)

pub word_fits : (s : List ℕ) (at rules : ℕ) → rule_reply s at rules ≡ 0 → (rules < most_rules) × WordFits (word_at s at)
unfolding rule_reply
word_fits s at rules e =
    let a = test_passed (leb most_rules rules) 2 _ e in
    let b = test_passed (ltb longest_word (byte s (at + length_at))) 4 _ a.1 in
    let c = test_passed (not (symbols_fit s (at + symbols_at) (byte s (at + length_at)) longest_word)) 4 _ b.1 in
    let l = ltb-false longest_word (byte s (at + length_at)) b.0 in (
      leb-false most_rules rules a.0,
      record {
        short = rw length-take (omega arith);
        symbols = λ i h. one i (rw length-take at h) l (not-false _ c.0);
      },
    )
  where
    one : (i : ℕ) → i < min (byte s (at + length_at)) (length (drop (at + symbols_at) s)) → byte s (at + length_at) ≤ longest_word
        → symbols_fit s (at + symbols_at) (byte s (at + length_at)) longest_word ≡ true → get_or (word_at s at) i 0 < symbol_count
    one i h l f =
        let k : i < byte s (at + length_at) = omega arith in
        rw (get_or-take (byte s (at + length_at)) (drop (at + symbols_at) s) i 0 k, get_or-drop)
        (symbol_low _ i _ (symbol_of_lem s (at + symbols_at) (byte s (at + length_at)) longest_word f i (omega arith)) k)

-- an arc that passed: the two states in the latest rule, of one part
pub record ArcPassed (b : Book) (x : Arc) : Type 0 where
  pub room : length b.arcs < most_arcs
  pub order : x.low ≤ x.high
  pub top : x.high < symbol_count
  pub from : (b.first ≤ x.from) × (x.from < length b.states)
  pub to : (b.first ≤ x.to) × (x.to < length b.states)
  pub part : (state_of b x.from).part ≡ (state_of b x.to).part

pub part_at_lem : (l : List State) (k : ℕ) → byte (map part_of l) k ≡ (get_or l k no_state).part
part_at_lem l k = get_or-map part_of l k no_state

pub arc_passed : (b : Book) (x : Arc) → arc_reply x.from x.low x.high x.to (scan_of b) ≡ 0 → ArcPassed b x
unfolding arc_reply
arc_passed b x e =
    let g = scan_of b in
    let p = test_passed (eqb g.rules 0) 3 _ e in
    let q = test_passed (leb most_arcs g.arcs) 2 _ p.1 in
    let r = test_passed (leb symbol_count x.high) 4 _ q.1 in
    let s = test_passed (ltb x.high x.low) 4 _ r.1 in
    let t = test_passed (not (given g.first g.states x.from)) 5 _ s.1 in
    let u = test_passed (not (given g.first g.states x.to)) 5 _ t.1 in
    let v = test_passed (not (eqb (byte g.parts x.from) (byte g.parts x.to))) 5 _ u.1 in
    let f = not-false _ t.0 in
    let h = not-false _ u.0 in
    record {
      room = leb-false most_arcs g.arcs q.0;
      order = ltb-false x.high x.low s.0;
      top = leb-false symbol_count x.high r.0;
      from = (given_from _ _ _ f, given_below _ _ _ f);
      to = (given_from _ _ _ h, given_below _ _ _ h);
      part = sym (part_at_lem b.states x.from) ∙ eqb-true _ _ (not-false _ v.0) ∙ part_at_lem b.states x.to;
    }

-- each kind of record keeps a sound book sound
rule_sound : (b : Book) (w : List ℕ) → length b.words < most_rules → WordFits w → Sound b → Sound (with_rule w b)
rule_sound b w h f o =
    record {
      rules = rw length-append (omega arith);
      states = o.states;
      arcs = o.arcs;
      word = at_snoc (λ _. WordFits) b.words w [] o.word f;
      state = o.state;
      rule = λ k g. rw length-append (omega (arith, o.rule k g));
      latest = λ k i g. let z : ⊥ = omega arith in absurd z;
      first = omega arith;
      arc = λ j g. let a = o.arc j g in record { order = a.order; top = a.top; from = a.from; to = a.to; part = a.part; rule = a.rule };
    }

arc_sound : (b : Book) (x : Arc) → ArcPassed b x → Sound b → Sound (with_arc x b)
arc_sound b x p o =
    record {
      rules = o.rules;
      states = o.states;
      arcs = rw length-append (omega (arith, p.room));
      word = o.word;
      state = o.state;
      rule = o.rule;
      latest = o.latest;
      first = o.first;
      arc = at_snoc (λ _. ArcFits (with_arc x b)) b.arcs x no_arc
          (λ j g. let a = o.arc j g in record { order = a.order; top = a.top; from = a.from; to = a.to; part = a.part; rule = a.rule })
          (record { order = p.order; top = p.top; from = p.from.1; to = p.to.1; part = p.part; rule = same });
    }
  where
    same : (state_of b x.from).rule ≡ (state_of b x.to).rule
    same = omega (arith, o.latest x.from p.from.0 p.from.1, o.latest x.to p.to.0 p.to.1)

state_sound : (b : Book) (st : State) → length b.states < most_states → StateFits st → st.rule + 1 ≡ length b.words → Sound b → Sound (with_state st b)
state_sound b st h p e o =
    record {
      rules = o.rules;
      states = rw length-append (omega arith);
      arcs = o.arcs;
      word = o.word;
      state = at_snoc (λ _. StateFits) b.states st no_state o.state p;
      rule = at_snoc (λ _ x. x.rule < length b.words) b.states st no_state o.rule (omega arith);
      latest = λ k f g. at_snoc (λ j x. b.first ≤ j → x.rule + 1 ≡ length b.words) b.states st no_state (λ j i q. o.latest j q i) (λ _. e) k g f;
      first = rw length-append (omega (arith, o.first));
      arc = λ j g. kept (arc_of b j) (o.arc j g);
    }
  where
    old : (k : ℕ) → k < length b.states → state_of (with_state st b) k ≡ state_of b k
    old k g = get_or-append b.states (st ∷ []) no_state k g

    kept : (a : Arc) → ArcFits b a → ArcFits (with_state st b) a
    kept a q =
        record {
          order = q.order;
          top = q.top;
          from = rw length-append (omega (arith, q.from));
          to = rw length-append (omega (arith, q.to));
          part = rw (old a.from q.from, old a.to q.to) q.part;
          rule = rw (old a.from q.from, old a.to q.to) q.rule;
        }

pub kind_rule : (s : List ℕ) (at : ℕ) (b : Book) → kind_reply s at (scan_of b) ≡ 0 → byte s at ≡ rule_kind → rule_reply s at (length b.words) ≡ 0
unfolding kind_reply
kind_rule s at b e k = rw k at e

pub kind_state : (s : List ℕ) (at : ℕ) (b : Book) → kind_reply s at (scan_of b) ≡ 0 → byte s at ≡ state_kind
    → state_reply (byte s (at + part_at)) (byte s (at + flags_at)) (length b.words) (length b.states) ≡ 0
unfolding kind_reply
kind_state s at b e k = rw k at e

pub kind_arc : (s : List ℕ) (at : ℕ) (b : Book) → kind_reply s at (scan_of b) ≡ 0 → byte s at ≡ arc_kind
    → arc_reply (byte s (at + from_at)) (byte s (at + low_at)) (byte s (at + high_at)) (byte s (at + to_at)) (scan_of b) ≡ 0
unfolding kind_reply
kind_arc s at b e k = rw k at e

pub keep : (s : List ℕ) (at : ℕ) (b : Book) → record_reply s at (scan_of b) ≡ 0 → Sound b → Sound (with_record s at b)
unfolding with_record
keep s at b e o =
    let q = (passed s at (scan_of b) e).kind in
    kind_rel (λ (x : Book) (y : Book). Sound x) (byte s at) _ _ _ _ b b b b
    (λ k. let f = word_fits s at _ (kind_rule s at b q k) in rule_sound b (word_at s at) f.0 f.1 o)
    (λ k. let f = state_fits _ _ _ _ (length b.words - 1) at (kind_state s at b q k) in
    state_sound b (state_at s at b) f.0 f.2 (omega (arith, f.1)) o)
    (λ k. arc_sound b (arc_at s at) (arc_passed b (arc_at s at) (kind_arc s at b q k)) o)
    o

pub none : Sound empty
none =
    record {
      rules = omega arith;
      states = omega arith;
      arcs = omega arith;
      word = λ k h. let z : ⊥ = omega arith in absurd z;
      state = λ k h. let z : ⊥ = omega arith in absurd z;
      rule = λ k h. let z : ⊥ = omega arith in absurd z;
      latest = λ k f h. let z : ⊥ = omega arith in absurd z;
      first = omega arith;
      arc = λ k h. let z : ⊥ = omega arith in absurd z;
    }

pub accepted_sound : (s : List ℕ) (B : Book) → read_book s ≡ accepted B → Sound B
accepted_sound s B h = accepted_ind s Sound (keep s) B h none

-- what holds at each place of a list holds of each element
at_each : {A : Type 0} (P : A → Type 0) (l : List A) (d : A) → ((k : ℕ) → k < length l → P (get_or l k d)) → {x : A} → Memᴰ x l → P x
at_each P [] d f m = elim m [ ]
at_each P (y ∷ l) d f (Memᴰ.head e) = subst P (sym e) (f 0 (omega arith))
at_each P (y ∷ l) d f (Memᴰ.tail m) = at_each P l d (λ k h. f (suc k) (omega arith)) m

pub arc_fits : {b : Book} → Sound b → {x : Arc} → Memᴰ x b.arcs → ArcFits b x
arc_fits {b} o = at_each (ArcFits b) b.arcs no_arc o.arc
