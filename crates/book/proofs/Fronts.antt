-- A front of records is read alike, whatever stands behind it: where the front with an end record is an accepted book, CHECK has read that book when it
-- comes to the front's end. Assumes nothing.
use Prim.Native.Nat.{ℕ, zero, suc, ◌+◌, ◌-◌, ◌≤◌, ◌<◌}
use mathlib.Core.Path.{◌≡◌, refl, sym, ap, ap₂, ◌∙◌}
use mathlib.Core.List.{List, [], ◌∷◌, ◌++◌}
use mathlib.Core.Bool.{◌&&◌}
use native.Mathlib.Nat.{suc-add}
use native.Mathlib.Omega.{arith}
use native.Mathlib.Decide.{dec_lt}
use lib.Dec.{leb, ltb}
use lib.ListN.{length, drop, length-append, length-drop, get_or-append}
use lib.Seq.{take-append-le, drop-append-le, get_or-append_seam}
use borrow.Author.Tests.{lt-leb, le-ltb, ltb-false}
use Rattle.book.specs.Format.{most_rules, longest_word, rule_kind, state_kind, arc_kind, end_kind, length_at, symbols_at, part_at, flags_at, from_at}
use Rattle.book.specs.Format.{low_at, high_at, to_at}
use Rattle.book.specs.Format.{byte, record_size, symbol_fits, symbols_fit, rule_reply, state_reply, arc_reply, kind_reply, record_reply}
use Rattle.book.specs.Reading.{Book, empty, scan_of, word_at, with_rule, with_record, accepted, read_from, read_book}
use Rattle.book.specs.Fronts.{closed}
use Rattle.book.specs.declared.Scan.{Scan}
use Rattle.book.proofs.Laws.{size_rule, size_state, size_arc}
use Rattle.book.proofs.Passed.{test_passed, kind_rel, Passed, passed}
use Rattle.book.proofs.Progress.{read_more, read_out}
use Rattle.book.proofs.Accepted.{Next, last, more, next, never}

-- a record that stands in the front
module _ (front rest : List ℕ) where
  byte_front : (i : ℕ) → i < length front → byte (front ++ rest) i ≡ byte front i
  byte_front i h = get_or-append front rest 0 i h

  symbols_front : (p n m : ℕ) → p + m ≤ length front → symbols_fit (front ++ rest) p n m ≡ symbols_fit front p n m
  unfolding symbols_fit
  symbols_front p n zero h = refl
  symbols_front p n (suc m) h = ap₂ ◌&&◌ (symbols_front p n m (omega arith)) (ap (symbol_fits n m) (byte_front (p + m) (omega arith)))

  module _ (at : ℕ) (inside : at < length front) (whole : at + record_size (byte front at) ≤ length front) where
    same_kind : byte (front ++ rest) at ≡ byte front at
    same_kind = byte_front at inside

    rule_front : (rules : ℕ) → byte front at ≡ rule_kind → rule_reply (front ++ rest) at rules ≡ rule_reply front at rules
    unfolding rule_reply
    rule_front rules k =
        let z = size_rule k in
        rw (byte_front (at + length_at) (omega arith), symbols_front (at + symbols_at) (byte front (at + length_at)) longest_word (omega arith))

    state_front : (g : Scan) → byte front at ≡ state_kind
        → state_reply (byte (front ++ rest) (at + part_at)) (byte (front ++ rest) (at + flags_at)) g.rules g.states
        ≡ state_reply (byte front (at + part_at)) (byte front (at + flags_at)) g.rules g.states
    state_front g k =
        let z = size_state k in
        rw (byte_front (at + part_at) (omega arith), byte_front (at + flags_at) (omega arith))

    arc_front : (g : Scan) → byte front at ≡ arc_kind
        → arc_reply (byte (front ++ rest) (at + from_at)) (byte (front ++ rest) (at + low_at)) (byte (front ++ rest) (at + high_at))
        (byte (front ++ rest) (at + to_at)) g
        ≡ arc_reply (byte front (at + from_at)) (byte front (at + low_at)) (byte front (at + high_at)) (byte front (at + to_at)) g
    arc_front g k =
        let z = size_arc k in
        let a = byte_front (at + from_at) (omega arith) in
        let b = byte_front (at + low_at) (omega arith) in
        let c = byte_front (at + high_at) (omega arith) in
        let d = byte_front (at + to_at) (omega arith) in
        rw (a, b, c, d)

    kind_front : (g : Scan) → kind_reply (front ++ rest) at g ≡ kind_reply front at g
    unfolding kind_reply
    kind_front g =
        rw same_kind
        (kind_rel (λ (x : ℕ) (y : ℕ). x ≡ y) (byte front at) _ _ _ _ _ _ _ _ (λ k. rule_front g.rules k) (λ k. state_front g k) (λ k. arc_front g k) refl)

    reply_front : (g : Scan) → record_reply (front ++ rest) at g ≡ record_reply front at g
    unfolding record_reply
    reply_front g =
        let l = length-append front rest in
        rw same_kind
        (simp (
          lt-leb (length (front ++ rest)) at (omega arith),
          lt-leb (length front) at inside,
          le-ltb (length (front ++ rest)) (at + record_size (byte front at)) (omega arith),
          le-ltb (length front) (at + record_size (byte front at)) whole,
          kind_front g,
        ))

    word_front : (g : Scan) → kind_reply front at g ≡ 0 → byte front at ≡ rule_kind → word_at (front ++ rest) at ≡ word_at front at
    unfolding kind_reply rule_reply
    word_front g e k =
        let z = size_rule k in
        let n = short (rw k at e) in
        let l = length-drop (at + symbols_at) front in
        rw (byte_front (at + length_at) (omega arith), drop-append-le (at + symbols_at) front rest (omega arith))
        (take-append-le (byte front (at + length_at)) (drop (at + symbols_at) front) rest (omega arith))
      where
        short : rule_reply front at g.rules ≡ 0 → byte front (at + length_at) ≤ longest_word
        short h =
            let a = test_passed (leb most_rules g.rules) 2 _ h in
            ltb-false longest_word (byte front (at + length_at)) (test_passed (ltb longest_word (byte front (at + length_at))) 4 _ a.1).0

    record_front : (b : Book) → kind_reply front at (scan_of b) ≡ 0 → with_record (front ++ rest) at b ≡ with_record front at b
    unfolding with_record
    record_front b e =
        rw same_kind
        (kind_rel (λ (x : Book) (y : Book). x ≡ y) (byte front at) _ _ _ _ _ _ _ _
        (λ k. ap (λ (w : List ℕ). with_rule w b) (word_front (scan_of b) e k))
        (λ k.
        let z = size_state k in
        let p = byte_front (at + part_at) (omega arith) in
        let f = byte_front (at + flags_at) (omega arith) in
        rw (p, f))
        (λ k.
        let z = size_arc k in
        let p = byte_front (at + from_at) (omega arith) in
        let q = byte_front (at + low_at) (omega arith) in
        let r = byte_front (at + high_at) (omega arith) in
        let t = byte_front (at + to_at) (omega arith) in
        rw (p, q, r, t))
        refl)

-- the records from `at` up to the front's end lead from c to b
record Through (front rest : List ℕ) (at : ℕ) (c b : Book) : Type 0 where
  records : ℕ
  few : at + records ≤ length front
  reads : (m : ℕ) → read_from (records + m) (front ++ rest) at c ≡ read_from m (front ++ rest) (length front) b

module _ (front rest : List ℕ) where
  at_end : byte (closed front) (length front) ≡ end_kind
  at_end = get_or-append_seam front end_kind [] 0

  closed_long : length (closed front) ≡ length front + 1
  closed_long = length-append front (end_kind ∷ [])

  by_next : (n at : ℕ) (c b : Book) → at ≤ length front → Next n (closed front) at c b
      → ((at' : ℕ) (c' : Book) → at' ≤ length front → read_from n (closed front) at' c' ≡ accepted b → Through front rest at' c' b) → Through front rest at c b
  by_next n at c b l (last e k o q) ih =
      let f = closed_long in
      let z : at ≡ length front = omega arith in
      record { records = 0; few = omega arith; reads = λ m. let w : 0 + m ≡ m = omega arith in rw (w, z, q) }
  by_next n at c b l (more e k h) ih = go (ih (at + record_size (byte front at)) (with_record front at c) whole (rw (← rec, ← kind) h))
    where
      p : Passed (closed front) at (scan_of c)
      p = passed (closed front) at (scan_of c) e

      before_end : Dec (at < length front) → at < length front
      before_end (yes g) = g
      before_end (no g) = let z : at ≡ length front = omega (arith, g) in absurd (k (ap (byte (closed front)) z ∙ at_end))

      inside : at < length front
      inside = before_end (dec_lt at (length front))

      kind : byte (closed front) at ≡ byte front at
      kind = byte_front front (end_kind ∷ []) at inside

      not_over : Dec (length front < at + record_size (byte (closed front) at)) → at + record_size (byte front at) ≤ length front
      not_over (yes g) =
          let f = closed_long in
          absurd (never _ _ _ (sym (read_out (closed front) (at + record_size (byte (closed front) at)) (omega arith) _ n) ∙ h))
      not_over (no g) = rw (← kind) (omega (arith, g))

      whole : at + record_size (byte front at) ≤ length front
      whole = not_over (dec_lt (length front) (at + record_size (byte (closed front) at)))

      reply : record_reply front at (scan_of c) ≡ 0
      reply = sym (reply_front front (end_kind ∷ []) at inside whole (scan_of c)) ∙ e

      q : Passed front at (scan_of c)
      q = passed front at (scan_of c) reply

      rec : with_record (closed front) at c ≡ with_record front at c
      rec = record_front front (end_kind ∷ []) at inside whole c q.kind

      go : Through front rest (at + record_size (byte front at)) (with_record front at c) b → Through front rest at c b
      go t =
          let z : 0 < record_size (byte front at) = positive (record_size (byte front at)) q.known in
          let s = t.few in
          record {
            records = suc t.records;
            few = omega arith;
            reads = λ m.
                ap (λ (f : ℕ). read_from f (front ++ rest) at c) (suc-add t.records m)
                ∙ read_more (t.records + m) (front ++ rest) at c (reply_front front rest at inside whole (scan_of c)
                ∙ reply) (λ y. k (kind ∙ sym (same_kind front rest at inside whole) ∙ y))
                ∙ rw (same_kind front rest at inside whole, record_front front rest at inside whole c q.kind) (t.reads m);
          }
        where
          positive : (m : ℕ) → (m ≡ 0 → ⊥) → 0 < m
          positive m f = omega (arith, f)

  through : (n at : ℕ) (c b : Book) → at ≤ length front → read_from n (closed front) at c ≡ accepted b → Through front rest at c b
  unfolding read_from
  through zero at c b l h = absurd (never _ _ _ h)
  through (suc n) at c b l h = by_next n at c b l (next n (closed front) at c b h) (λ at' c' l' h'. through n at' c' b l' h')

-- CHECK at the front's end: it has read the front's book, and has fuel for a record a byte of what follows
pub record Behind (front rest : List ℕ) (b : Book) : Type 0 where
  pub fuel : ℕ
  pub enough : length rest < fuel
  pub reads : read_book (front ++ rest) ≡ read_from fuel (front ++ rest) (length front) b

pub behind : (front rest : List ℕ) (b : Book) → read_book (closed front) ≡ accepted b → Behind front rest b
unfolding read_book
behind front rest b h =
    let t = through front rest _ 0 empty b (omega arith) h in
    let f = t.few in
    let l = length-append front rest in
    let z : suc (length (front ++ rest)) ≡ t.records + (suc (length (front ++ rest)) - t.records) = omega arith in
    record {
      fuel = suc (length (front ++ rest)) - t.records;
      enough = omega arith;
      reads = ap (λ (m : ℕ). read_from m (front ++ rest) 0 empty) z ∙ t.reads _;
    }
