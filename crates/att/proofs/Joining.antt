-- A part that IMPORT wrote, in the book that it is put into. Assumes nothing.
use Prim.Native.Nat.{ℕ, zero, suc, ◌+◌, ◌-◌, ◌*◌, ◌≤◌, ◌<◌}
use mathlib.Core.Path.{◌≡◌, refl, ap, sym, ◌∙◌, subst}
use mathlib.Core.List.{List, [], ◌∷◌, ◌++◌, append_assoc, append-nil}
use mathlib.Core.Bool.{Bool, false, ◌&&◌}
use native.Mathlib.Omega.{arith}
use lib.Dec.{eqb, ltb}
use lib.ListN.{length, drop, get_or, length-append, get_or-append}
use lib.Seq.{drop-drop, drop-append_seam, get_or-append-add}
use borrow.Author.Tests.{lt-leb}
use Rattle.book.specs.Format.{most_arcs, state_size, end_kind}
use Rattle.book.specs.Reading.{State, Arc, Book, accepted, answer, read_from, read_book, check_def, book_in, book_of}
use Rattle.book.specs.Language.{no_state, state_of, accepts}
use Rattle.book.specs.Sound.{Sound, no_arc, arc_of}
use Rattle.book.specs.Fronts.{closed}
use Rattle.book.specs.declared.Checked.{Checked}
use Rattle.book.proofs.Sound.{accepted_sound}
use Rattle.book.proofs.Some.{any_each}
use Rattle.book.proofs.Fronts.{behind}
use Rattle.book.proofs.Grown.{Grown, grown}
use Rattle.book.proofs.Records.{read_last}
use Rattle.book.proofs.Claims.{some_rule_lem}
use Rattle.att.specs.Text.{Said, arc, final, read_text, lines_in, names, arc_count, flags, written, state_count, needed, import_def}
use Rattle.att.specs.Words.{text_words}
use Rattle.att.specs.Placed.{part_arcs, part_states, latest, with_part, mine, leaves, Holds, import_bytes}
use Rattle.att.proofs.Flags.{written_length}
use Rattle.att.proofs.Symbols.{text_symbols}
use Rattle.att.proofs.Passing.{part_state, part_long, Fits, read_part}
use Rattle.att.proofs.Taking.{Taken, taken}
use Rattle.att.proofs.Words.{words}
use Rattle.att.proofs.Keeping.{keeps}

-- ---- arcs
part_arcs_long : (first : ℕ) (S : List ℕ) (ls : List Said) → length (part_arcs first S ls) ≡ arc_count ls
unfolding part_arcs arc_count
part_arcs_long first S [] = refl
part_arcs_long first S (arc x y a ∷ ls) = let h = part_arcs_long first S ls in omega arith
part_arcs_long first S (final x ∷ ls) = let h = part_arcs_long first S ls in omega arith

part_arcs_from : (first : ℕ) (S : List ℕ) (ls : List Said) (j : ℕ) → j < length (part_arcs first S ls) → first ≤ (get_or (part_arcs first S ls) j no_arc).from
unfolding part_arcs
part_arcs_from first S [] j l = let z : ⊥ = omega arith in absurd z
part_arcs_from first S (arc x y a ∷ ls) zero l = omega arith
part_arcs_from first S (arc x y a ∷ ls) (suc j) l = part_arcs_from first S ls j (omega arith)
part_arcs_from first S (final x ∷ ls) j l = part_arcs_from first S ls j l

-- ---- the part in the book
module _ (b : Book) (at part : ℕ) (ls : List Said) where
  abbrev B' : Book
  B' = with_part b at part ls

  abbrev fs : List ℕ
  fs = flags ls (names ls)

  abbrev first : ℕ
  first = length b.states

  old_state : (k : ℕ) → k < first → state_of B' k ≡ state_of b k
  old_state k l = get_or-append b.states (part_states (latest b) part at fs) no_state k l

  new_state : (i : ℕ) → i < state_count ls → state_of B' (first + i) ≡ record { rule = latest b; part = part; flags = get_or fs i 0; place = at + state_size * i }
  new_state i l = get_or-append-add b.states (part_states (latest b) part at fs) i no_state ∙ part_state (latest b) part at fs i l

  all_states : length B'.states ≡ first + state_count ls
  all_states = length-append b.states (part_states (latest b) part at fs) ∙ ap (λ (n : ℕ). first + n) (part_long (latest b) part at fs)

  all_arcs : length B'.arcs ≡ length b.arcs + arc_count ls
  all_arcs = length-append b.arcs (part_arcs first (names ls) ls) ∙ ap (λ (n : ℕ). length b.arcs + n) (part_arcs_long first (names ls) ls)

  -- the part in a book that goes on with states of other parts and arcs that leave other states
  holds_in : Sound b → ((k : ℕ) → k < first → mine b (latest b) part k ≡ false) → (C : Book) (N : List State) (X : List Arc)
      → C.states ≡ B'.states ++ N → C.arcs ≡ B'.arcs ++ X
      → ((k : ℕ) → first + state_count ls ≤ k → k < length C.states → mine C (latest b) part k ≡ false)
      → ((j : ℕ) → length b.arcs + arc_count ls ≤ j → j < length C.arcs → leaves first (state_count ls) (arc_of C j) ≡ false)
      → Holds C (latest b) part first ls
  holds_in sound none C N X e f later aside =
      record {
        room = omega (arith, all_states, long);
        rule = λ i h. ap (λ (st : State). st.rule) (new i h);
        of = λ i h. ap (λ (st : State). st.part) (new i h);
        flag = λ i h. ap (λ (st : State). st.flags) (new i h);
        below = λ k h. ap (λ (st : State). eqb st.rule (latest b) && eqb st.part part) (same k (omega (arith, all_states)) ∙ old_state k h) ∙ none k h;
        above = later;
        early = b.arcs;
        late = X;
        arcs = f ∙ append_assoc b.arcs (part_arcs first (names ls) ls) X;
        apart = any_each (leaves first (state_count ls)) no_arc b.arcs (λ j h. ap (λ (t : Bool). t && ltb (arc_of b j).from (first + state_count ls))
            (lt-leb first (arc_of b j).from (sound.arc j h).from));
        aside = any_each (leaves first (state_count ls)) no_arc X (λ j h. ap (leaves first (state_count ls)) (late j)
            ∙ aside (length B'.arcs + j) (omega (arith, all_arcs)) (omega (arith, h, many)));
      }
    where
      long : length C.states ≡ length B'.states + length N
      long = ap length e ∙ length-append B'.states N

      many : length C.arcs ≡ length B'.arcs + length X
      many = ap length f ∙ length-append B'.arcs X

      same : (k : ℕ) → k < length B'.states → state_of C k ≡ state_of B' k
      same k h = ap (λ (t : List State). get_or t k no_state) e ∙ get_or-append B'.states N no_state k h

      new : (i : ℕ) → i < state_count ls → state_of C (first + i) ≡ record { rule = latest b; part = part; flags = get_or fs i 0; place = at + state_size * i }
      new i h = same (first + i) (omega (arith, h, all_states)) ∙ new_state i h

      late : (j : ℕ) → get_or X j no_arc ≡ arc_of C (length B'.arcs + j)
      late j = sym (ap (λ (t : List Arc). get_or t (length B'.arcs + j) no_arc) f ∙ get_or-append-add B'.arcs X j no_arc)

  -- and in the book that ends with it
  holds_part : Sound b → ((k : ℕ) → k < first → mine b (latest b) part k ≡ false) → Holds B' (latest b) part first ls
  holds_part sound none =
      holds_in sound none B' [] [] (sym (append-nil B'.states)) (sym (append-nil B'.arcs))
      (λ k h g. let z : ⊥ = omega (arith, all_states) in absurd z)
      (λ j h g. let z : ⊥ = omega (arith, all_arcs) in absurd z)

-- ---- the bytes in the book
module _ (front : List ℕ) (b : Book) (e : read_book (closed front) ≡ accepted b) where
  -- the front's book is sound, and has a rule
  front_sound : Sound b
  front_sound = accepted_sound (closed front) b e

  front_rule : 0 < length b.words
  unfolding check_def book_of
  front_rule = subst (λ (c : Book). 0 < length c.words) (ap book_in e) (some_rule_lem (closed front) (ap (λ (r : Checked). r.reply) (ap answer e)))

  pub front_part : (part : ℕ) (ls : List Said) → Fits b part ls
      → read_book (closed (front ++ written part (length b.states) ls)) ≡ accepted (with_part b (length front) part ls)
  front_part part ls fits =
      let W : List ℕ = written part (length b.states) ls in
      let t = behind front (W ++ (end_kind ∷ [])) b e in
      let l : length (W ++ (end_kind ∷ [])) ≡ needed ls + 1 = length-append W (end_kind ∷ [])
      ∙ ap (λ (n : ℕ). n + 1) (written_length part (length b.states) ls) in
      let n : ℕ = t.fuel - (state_count ls + arc_count ls) - 1 in
      let m = t.enough in
      let f : t.fuel ≡ state_count ls + (arc_count ls + suc n) = omega arith in
      let s : List ℕ = front ++ (W ++ (end_kind ∷ [])) in
      let d : drop (length front) s ≡ W ++ (end_kind ∷ []) = drop-append_seam front (W ++ (end_kind ∷ [])) in
      let c : drop (length front + needed ls) s ≡ end_kind ∷ []
      = sym (drop-drop (needed ls) (length front) s) ∙ rw (d, ← written_length part (length b.states) ls) (drop-append_seam W (end_kind ∷ [])) in
      ap read_book (append_assoc front W (end_kind ∷ []))
      ∙ t.reads
      ∙ ap (λ (k : ℕ). read_from k s (length front) b) f
      ∙ read_part s (length front) b part ls (end_kind ∷ []) fits d (suc n)
      ∙ read_last s (length front + needed ls) (with_part b (length front) part ls) fits.some c n

  -- what an accepting answer of IMPORT and room for the arcs give
  fits : (s : List ℕ) (part : ℕ) (out : List ℕ) → Taken s part (length b.states) out → length b.arcs + arc_count (lines_in (read_text s)) ≤ most_arcs
      → Fits b part (lines_in (read_text s))
  fits s part out t room =
      record {
        some = front_rule;
        first = front_sound.first;
        states = t.top;
        arcs = room;
        low = t.low;
        symbols =
            text_symbols s (lines_in (read_text s)) t.read;
      }

  module _ (s : List ℕ) (part : ℕ) (out : List ℕ) (z : (import_def s part (length b.states) out).answer.reply ≡ 0)
      (room : length b.arcs + arc_count (lines_in (read_text s)) ≤ most_arcs) where
    abbrev lines : List Said
    lines = lines_in (read_text s)

    abbrev bytes : List ℕ
    bytes = import_bytes s part (length b.states) out

    said : Taken s part (length b.states) out
    said = taken s part (length b.states) out z

    pub import_accepted : read_book (closed (front ++ bytes)) ≡ accepted (with_part b (length front) part lines)
    import_accepted = rw said.bytes (front_part part lines (fits s part out said room))

    -- whatever follows the bytes, CHECK has read the part when it comes to their end
    after_part : (rest : List ℕ) (B : Book) → read_book (front ++ (bytes ++ rest)) ≡ accepted B → Grown (with_part b (length front) part lines) B
    after_part rest B e' =
        let t = behind (front ++ bytes) rest (with_part b (length front) part lines) import_accepted in
        grown t.fuel ((front ++ bytes) ++ rest) (length (front ++ bytes)) (with_part b (length front) part lines) B
        (sym t.reads ∙ ap read_book (append_assoc front bytes rest) ∙ e')

    module _ (none : (k : ℕ) → k < length b.states → mine b (latest b) part k ≡ false) where
      pub import_words : (w : List ℕ) → accepts (with_part b (length front) part lines) (latest b) part w ≡ text_words lines w
      import_words w = words (with_part b (length front) part lines) (latest b) part (length b.states) lines
          (holds_part b (length front) part lines front_sound none) w

      -- in a book that goes on with states of other parts and arcs that leave other states
      pub import_within : (rest : List ℕ) (B : Book) → read_book (front ++ (bytes ++ rest)) ≡ accepted B
          → ((k : ℕ) → length b.states + state_count lines ≤ k → k < length B.states → mine B (latest b) part k ≡ false)
          → ((j : ℕ) → length b.arcs + arc_count lines ≤ j → j < length B.arcs → leaves (length b.states) (state_count lines) (arc_of B j) ≡ false)
          → (w : List ℕ) → accepts B (latest b) part w ≡ text_words lines w
      import_within rest B e' later aside w =
          let g = after_part rest B e' in
          words B (latest b) part (length b.states) lines
          (holds_in b (length front) part lines front_sound none B g.states g.arcs g.all_states g.all_arcs later aside) w

    -- every other part of the book means what it meant
    pub import_keeps : (r k : ℕ) → (r ≡ latest b → k ≡ part → ⊥) → (w : List ℕ) → accepts (with_part b (length front) part lines) r k w ≡ accepts b r k w
    import_keeps r k other w =
        keeps b (part_states (latest b) part (length front) (flags lines (names lines))) (part_arcs (length b.states) (names lines) lines) front_sound
        (part_arcs_from (length b.states) (names lines) lines) r k
        (λ j l e f. (let p = part_state (latest b) part (length front) (flags lines (names lines)) j
        (omega (arith, part_long (latest b) part (length front) (flags lines (names lines)))) in
        other (sym e ∙ ap (λ (st : State). st.rule) p) (sym f ∙ ap (λ (st : State). st.part) p))) w
