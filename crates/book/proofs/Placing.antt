-- The places of an accepted book's records: the array of them as far as a walk has come, and what stands at each. Assumes nothing.
use Prim.Native.Nat.{ℕ, zero, suc, ◌+◌, ◌<◌}
use mathlib.Core.Path.{◌≡◌, refl, ap, sym, subst, ◌∙◌}
use mathlib.Core.Logic.{◌≢◌}
use mathlib.Core.List.{List, [], ◌∷◌, ◌++◌, map, map-append, append-nil, append_assoc}
use native.Mathlib.Decide.{ℕ_discrete}
use native.Mathlib.Omega.{arith}
use lib.ListN.{length, get_or, drop, length-drop, set, replicate, length-append, get_or-append, get_or-map}
use lib.Seq.{get_or-append_seam, length-take-le}
use lib.Dec.{leb, ltb}
use borrow.Author.Tests.{eq-eqb, ne_eqb, ltb-false}
use Rattle.book.specs.Format.{most_rules, most_states, longest_word, rule_kind, state_kind, end_kind, length_at, symbols_at, byte}
use Rattle.book.specs.Format.{pad, record_size, rule_reply, record_reply}
use Rattle.book.specs.Reading.{State, Book, word_at, state_at, with_record, empty, scan_of, accepted, read_from, read_book, check_def, book_of}
use Rattle.book.specs.Language.{no_state, state_of}
use Rattle.book.proofs.Laws.{size_rule}
use Rattle.book.proofs.Pad.{pad_nil, set_pad, get_or_pad_all}
use Rattle.book.proofs.Passed.{passed, test_passed}
use Rattle.book.proofs.Accepted.{Next, last, more, next, never, is_accepted}
use Rattle.book.proofs.Sound.{at_snoc, kind_rule, kind_state, state_fits}
use Rattle.book.proofs.Walk.{Walk, walk_passed, walk_ind, states_more, states_same, words_rule, words_same}
use Rattle.book.specs.Outline.{places_from, places_of, state_places, rule_places, Placed, WordRoom, WordAt, WordsAt}

pub snoc_other : {A : Type 0} (l : List A) (x d : A) (k : ℕ) → k ≢ length l → get_or (l ++ (x ∷ [])) k d ≡ get_or l k d
snoc_other [] x d zero h = absurd (h refl)
snoc_other [] x d (suc k) h = refl
snoc_other (y ∷ l) x d zero h = refl
snoc_other (y ∷ l) x d (suc k) h = snoc_other l x d k (λ e. h (ap suc e))

-- one record of `places_from`
module _ (kind n : ℕ) (s : List ℕ) (at : ℕ) where
  pub places_end : byte s at ≡ end_kind → places_from kind (suc n) s at ≡ []
  unfolding places_from
  places_end k = rw (places_from, k)

  pub places_here : byte s at ≢ end_kind → byte s at ≡ kind → places_from kind (suc n) s at ≡ at ∷ places_from kind n s (at + record_size (byte s at))
  unfolding places_from
  places_here f k = rw (places_from, ne_eqb _ _ f, eq-eqb _ _ k)

  pub places_other : byte s at ≢ end_kind → byte s at ≢ kind → places_from kind (suc n) s at ≡ places_from kind n s (at + record_size (byte s at))
  unfolding places_from
  places_other f k = rw (places_from, ne_eqb _ _ f, ne_eqb _ _ k)

-- the array of places as far as a walk over the records has come: n records of that kind stand before `at`, as many as the book so far has
pub record Placing (kind : ℕ) (s : List ℕ) (most at n : ℕ) (l : List ℕ) (many : ℕ) : Type 0 where
  pub same : n ≡ many
  pub done : List ℕ
  pub fuel : ℕ
  pub count : n ≡ length done
  pub array : l ≡ pad most done
  pub enough : length s < at + fuel
  pub rest : done ++ places_from kind fuel s at ≡ places_of kind s

pub placing_start : (kind : ℕ) (s : List ℕ) (most : ℕ) → Placing kind s most 0 0 (replicate most 0) 0
unfolding places_of
placing_start kind s most =
    record { same = refl; done = []; fuel = suc (length s); count = refl; array = sym (pad_nil most); enough = omega arith; rest = refl }

module _ (kind : ℕ) (s : List ℕ) (most at n : ℕ) (l : List ℕ) (many : ℕ) (inside : at < length s) where
  end_by : (done : List ℕ) (fuel : ℕ) → length s < at + fuel → done ++ places_from kind fuel s at ≡ places_of kind s → byte s at ≡ end_kind
      → done ≡ places_of kind s
  end_by done zero h e k = absurd (omega arith)
  end_by done (suc fuel) h e k = sym (append-nil done) ∙ ap (λ (x : List ℕ). done ++ x) (sym (places_end kind fuel s at k)) ∙ e

  pub placing_end : byte s at ≡ end_kind → Placing kind s most at n l many → l ≡ pad most (places_of kind s)
  placing_end k p = p.array ∙ ap (pad most) (end_by p.done p.fuel p.enough p.rest k)

  module _ (more : byte s at ≢ end_kind) (known : record_size (byte s at) ≢ 0) where
    here_by : (done : List ℕ) (fuel : ℕ) → length s < at + fuel → done ++ places_from kind fuel s at ≡ places_of kind s → byte s at ≡ kind → n < most
        → n ≡ many → n ≡ length done → l ≡ pad most done → Placing kind s most (at + record_size (byte s at)) (n + 1) (set l n at) (many + 1)
    here_by done zero h e k room m c a = absurd (omega arith)
    here_by done (suc fuel) h e k room m c a = record {
      same = ap (λ (x : ℕ). x + 1) m;
      done = done ++ (at ∷ []);
      fuel = fuel;
      count = rw length-append (omega arith);
      array = ap (λ (x : List ℕ). set x n at) a ∙ set_pad most done n at c room;
      enough = omega (arith, known);
      rest = append_assoc done (at ∷ []) _ ∙ ap (λ (x : List ℕ). done ++ x) (sym (places_here kind fuel s at more k)) ∙ e;
    }

    pub placing_here : byte s at ≡ kind → n < most → Placing kind s most at n l many
        → Placing kind s most (at + record_size (byte s at)) (n + 1) (set l n at) (many + 1)
    placing_here k room p = here_by p.done p.fuel p.enough p.rest k room p.same p.count p.array

    other_by : (done : List ℕ) (fuel : ℕ) → length s < at + fuel → done ++ places_from kind fuel s at ≡ places_of kind s → byte s at ≢ kind
        → n ≡ many → n ≡ length done → l ≡ pad most done → Placing kind s most (at + record_size (byte s at)) n l many
    other_by done zero h e k m c a = absurd (omega arith)
    other_by done (suc fuel) h e k m c a = record {
      same = m;
      done = done;
      fuel = fuel;
      count = c;
      array = a;
      enough = omega (arith, known);
      rest = ap (λ (x : List ℕ). done ++ x) (sym (places_other kind fuel s at more k)) ∙ e;
    }

    pub placing_other : byte s at ≢ kind → Placing kind s most at n l many → Placing kind s most (at + record_size (byte s at)) n l many
    placing_other k p = other_by p.done p.fuel p.enough p.rest k p.same p.count p.array

-- what holds of no record, and is kept by each record that passes its tests with the places so far, holds of an accepted book and its places
module _ (kind : ℕ) (s : List ℕ) (R : Book → List ℕ → Type 0)
    (here : (at : ℕ) (b : Book) (done : List ℕ) → record_reply s at (scan_of b) ≡ 0 → byte s at ≡ kind → R b done → R (with_record s at b) (done ++ (at ∷ [])))
    (other : (at : ℕ) (b : Book) (done : List ℕ) → byte s at ≢ kind → R b done → R (with_record s at b) done) where
  by_next : (n at : ℕ) (b B : Book) (done : List ℕ) → Next n s at b B
      → ((at' : ℕ) (b' : Book) (done' : List ℕ) → read_from n s at' b' ≡ accepted B → R b' done' → R B (done' ++ places_from kind n s at'))
      → R b done → R B (done ++ places_from kind (suc n) s at)
  by_next n at b B done (last e k l q) ih r =
      rw (places_end kind n s at k, append-nil) (subst (λ (x : Book). R x done) q r)
  by_next n at b B done (more e k h) ih r = go (ℕ_discrete (byte s at) kind)
    where
      go : Dec (byte s at ≡ kind) → R B (done ++ places_from kind (suc n) s at)
      go (yes y) =
          let later = places_from kind n s (at + record_size (byte s at)) in
          rw (places_here kind n s at k y, ← (append_assoc done (at ∷ []) later)) (ih _ _ _ h (here at b done e y r))
      go (no y) = rw (places_other kind n s at k y) (ih _ _ _ h (other at b done y r))

  from : (n at : ℕ) (b B : Book) (done : List ℕ) → read_from n s at b ≡ accepted B → R b done → R B (done ++ places_from kind n s at)
  unfolding read_from
  from zero at b B done h r = absurd (never _ _ _ h)
  from (suc n) at b B done h r = by_next n at b B done (next n s at b B h) (λ at' b' done' h' r'. from n at' b' B done' h' r') r

  pub places_ind : (check_def s).reply ≡ 0 → R empty [] → R (book_of s) (places_of kind s)
  unfolding read_book places_of
  places_ind z r = from _ _ _ _ [] (is_accepted s z) r

-- a place of an accepted book fits two bytes
pub place_fits : (s : List ℕ) (at : ℕ) (b B : Book) → Walk s at b B → at < 3000
place_fits s at b B w = omega (arith, w.place, w.sound.rules, w.sound.states, w.sound.arcs)

-- the record of state k stands at its place
pub record Found (s : List ℕ) (B : Book) (k : ℕ) (st : State) : Type 0 where
  pub book : Book
  pub walk : Walk s st.place book B
  pub kind : byte s st.place ≡ state_kind
  pub count : length book.states ≡ k

found_more : (s : List ℕ) (B : Book) (at : ℕ) (b : Book) → Walk s at b B → ((k : ℕ) → k < length b.states → Found s B k (get_or b.states k no_state))
    → (k : ℕ) → k < length (with_record s at b).states → Found s B k (get_or (with_record s at b).states k no_state)
found_more s B at b w f = go (ℕ_discrete (byte s at) state_kind)
  where
    go : Dec (byte s at ≡ state_kind) → (k : ℕ) → k < length (with_record s at b).states → Found s B k (get_or (with_record s at b).states k no_state)
    go (yes e) = rw (states_more s at b e) (at_snoc (Found s B) b.states (state_at s at b) no_state f
        (record { book = b; walk = w; kind = e; count = refl }))
    go (no e) = rw (states_same s at b e) f

pub found : (s : List ℕ) (B : Book) → Walk s 0 empty B → (k : ℕ) → k < length B.states → Found s B k (state_of B k)
found s B w =
    walk_ind s B (λ b. (k : ℕ) → k < length b.states → Found s B k (get_or b.states k no_state))
    (λ at b v f p. found_more s B at b v p)
    0
    empty
    w
    (λ k h. absurd (omega arith))

-- no state stands at 0
pub found_place : (s : List ℕ) (B : Book) (k : ℕ) (st : State) → Found s B k st → 0 < st.place
found_place s B k st f =
    let b = f.book in
    let q = (walk_passed s st.place b B f.walk).kind in
    let z = state_fits _ _ _ _ 0 0 (kind_state s st.place b q f.kind) in
    omega (arith, f.walk.place, z.1)

-- the array of the states' places has each state's place
abbrev place_of : State → ℕ
place_of st = st.place

state_places_lem : (s : List ℕ) → (check_def s).reply ≡ 0 → places_of state_kind s ≡ map place_of (book_of s).states
state_places_lem s z =
    places_ind state_kind s (λ b done. done ≡ map place_of b.states)
    (λ at b done e k r. rw (states_more s at b k, map-append) (ap (λ (x : List ℕ). x ++ (at ∷ [])) r))
    (λ at b done k r. rw (states_same s at b k) r)
    z
    refl

pub placed : (s l : List ℕ) → (check_def s).reply ≡ 0 → l ≡ state_places s → Placed (book_of s).states l
placed s l z e k =
    ap (λ (x : List ℕ). get_or x k 0) e
    ∙ get_or_pad_all most_states (places_of state_kind s) k
    ∙ ap (λ (x : List ℕ). get_or x k 0) (state_places_lem s z)
    ∙ get_or-map place_of (book_of s).states k no_state

-- and that of the rules' places each rule's record, with its word
word_at_lem : (s : List ℕ) (at : ℕ) (b : Book) → record_reply s at (scan_of b) ≡ 0 → byte s at ≡ rule_kind → WordAt s (word_at s at) at
unfolding rule_reply
word_at_lem s at b e k =
    let p = passed s at (scan_of b) e in
    let a = test_passed (leb most_rules (length b.words)) 2 _ (kind_rule s at b p.kind k) in
    let c = test_passed (ltb longest_word (byte s (at + length_at))) 4 _ a.1 in
    record { room = record { whole = omega (arith, p.whole, size_rule k); short = ltb-false longest_word (byte s (at + length_at)) c.0 }; is = refl }

-- the length of the word in a rule's record
pub word_length_lem : (s : List ℕ) (at : ℕ) → WordRoom s at → byte s (at + length_at) ≡ length (word_at s at)
word_length_lem s at r =
    sym (length-take-le (byte s (at + length_at)) (drop (at + symbols_at) s) (omega (arith, r.whole, r.short, length-drop (at + symbols_at) s)))

-- each word's record stands at its place
record Wording (s : List ℕ) (words : List (List ℕ)) (done : List ℕ) : Type 0 where
  pub count : length done ≡ length words
  pub each : WordsAt s words done

wording_more : (s : List ℕ) (words : List (List ℕ)) (done w : List ℕ) (at : ℕ) → WordAt s w at → Wording s words done
    → Wording s (words ++ (w ∷ [])) (done ++ (at ∷ []))
wording_more s words done w at h i = record {
  count = rw (length-append done (at ∷ []), length-append words (w ∷ [])) (omega (arith, i.count));
  each = at_snoc (λ r x. WordAt s x (get_or (done ++ (at ∷ [])) r 0)) words w []
      (λ r g. subst (WordAt s (get_or words r [])) (sym (get_or-append done (at ∷ []) 0 r (omega (arith, i.count)))) (i.each r g))
      (rw (← i.count) (subst (WordAt s w) (sym (get_or-append_seam done at [] 0)) h));
}

pub words_at : (s l : List ℕ) → (check_def s).reply ≡ 0 → l ≡ rule_places s → WordsAt s (book_of s).words l
words_at s l z e r h =
    let same = ap (λ (x : List ℕ). get_or x r 0) e ∙ get_or_pad_all most_rules (places_of rule_kind s) r in
    subst (WordAt s (get_or (book_of s).words r [])) (sym same) (all.each r h)
  where
    all : Wording s (book_of s).words (places_of rule_kind s)
    all =
        places_ind rule_kind s (λ b done. Wording s b.words done)
        (λ at b done f k i. rw (words_rule s at b k) (wording_more s b.words done (word_at s at) at (word_at_lem s at b f k) i))
        (λ at b done k i. rw (words_same s at b k) i)
        z
        (record { count = refl; each = λ r h. absurd (omega arith) })
