-- `outline::place_rules` meets its contract: a second walk over the records of an accepted book, with the array of the places as far as it has
-- come (`Placing`). Assumes nothing.
use Prim.Native.Nat.{ℕ, ◌+◌, ◌<◌}
use mathlib.Core.Path.{◌≡◌, refl, ◌∙◌, sym}
use native.Mathlib.Omega.{arith}
use mathlib.Core.List.{List}
use lib.ListN.{length, set, length-append}
use Rattle.book.specs.Format.{most_rules, rule_kind, end_kind, byte, record_size}
use Rattle.book.specs.Reading.{Book, scan_of, with_record}
use Rattle.book.proofs.Pad.{pad_nil}
use Rattle.book.proofs.Passed.{rule_room}
use Rattle.book.proofs.Walk.{Walk, walk_start, walk_passed, walk_more, words_rule, words_same}
use Rattle.book.proofs.Stepping.{given, at_end}
use Rattle.book.proofs.Placing.{Placing, placing_start, placing_here, placing_other, placing_end, place_fits}
use Rattle.book.proofs.outline.place_rules.Goals as goal

-- a record more
module _ (s : List ℕ) (at : ℕ) (b B : Book) (w : Walk s at b B) (n : ℕ) (l : List ℕ) (p : Placing rule_kind s most_rules at n l (length b.words)) where
  room : byte s at ≡ rule_kind → n < most_rules
  room k = omega (arith, rule_room s at (scan_of b) (walk_passed s at b B w).kind k, p.same)

  here : byte s at ≡ rule_kind → Placing rule_kind s most_rules (at + record_size (byte s at)) (n + 1) (set l n at) (length (with_record s at b).words)
  here k =
      let q = walk_passed s at b B w in
      rw (words_rule s at b k, length-append) (placing_here rule_kind s most_rules at n l _ q.inside (λ e. omega arith) q.known k (room k) p)

  other : (byte s at ≡ end_kind → ⊥) → (byte s at ≡ rule_kind → ⊥)
      → Placing rule_kind s most_rules (at + record_size (byte s at)) n l (length (with_record s at b).words)
  other f k =
      let q = walk_passed s at b B w in
      rw (words_same s at b k) (placing_other rule_kind s most_rules at n l _ q.inside f q.known k p)

pub loop-record-init : goal.loop-record-init
loop-record-init c =
    rw c.into_iter-record-iterator.ensures.into_iter_gives (
      refl,
      _,
      walk_start _ c.requires.s_value,
      rw (c.requires.places_value ∙ pad_nil most_rules) (placing_start rule_kind _ most_rules),
    )

pub overflow_cast-places : goal.overflow_cast-places
overflow_cast-places c =
    let g = given _ c.loop-record.record-iterator _ c.loop-record.invariant.0 c.loop-record.invariant.2 c.next.new.self c.in-Some.record c.in-Some.ensures.steps in
    omega (arith, g.place, place_fits _ _ _ _ c.loop-record.invariant.2)

pub bounds-places-rules : goal.bounds-places-rules
bounds-places-rules c =
    let g = given _ c.loop-record.record-iterator _ c.loop-record.invariant.0 c.loop-record.invariant.2 c.next.new.self c.in-Some.record c.in-Some.ensures.steps in
    room _ _ _ _ c.loop-record.invariant.2 _ _ c.loop-record.invariant.3 (sym g.kind ∙ sym c.kind-kind.ensures ∙ c.in-1.is)

pub loop-record-preserved-in-1-1 : goal.loop-record-preserved-in-1-1
loop-record-preserved-in-1-1 c =
    let i = c.loop-record.invariant in
    let g = given _ c.loop-record.record-iterator _ i.0 i.2 c.next.new.self c.in-Some.record c.in-Some.ensures.steps in
    let k = sym g.kind ∙ sym c.kind-kind.ensures ∙ c.in-1.is in (
      g.same,
      with_record c.args.s.now c.loop-record.record-iterator.at i.1,
      rw g.past (walk_more _ _ _ _ i.2 g.more),
      rw (g.past, g.place) (here _ _ i.1 _ i.2 _ _ i.3 k),
    )

pub loop-record-preserved-in-0-1 : goal.loop-record-preserved-in-0-1
loop-record-preserved-in-0-1 c =
    let i = c.loop-record.invariant in
    let g = given _ c.loop-record.record-iterator _ i.0 i.2 c.next.new.self c.in-Some.record c.in-Some.ensures.steps in
    let k = c.kind-kind.ensures ∙ g.kind in (
      g.same,
      with_record c.args.s.now c.loop-record.record-iterator.at i.1,
      rw g.past (walk_more _ _ _ _ i.2 g.more),
      rw g.past (other _ _ i.1 _ i.2 _ _ i.3 g.more (λ e. omega arith)),
    )

pub loop-record-preserved-then-kind-lt4 : goal.loop-record-preserved-then-kind-lt4
loop-record-preserved-then-kind-lt4 c =
    let i = c.loop-record.invariant in
    let g = given _ c.loop-record.record-iterator _ i.0 i.2 c.next.new.self c.in-Some.record c.in-Some.ensures.steps in
    let k = c.kind-kind.ensures ∙ g.kind in (
      g.same,
      with_record c.args.s.now c.loop-record.record-iterator.at i.1,
      rw g.past (walk_more _ _ _ _ i.2 g.more),
      rw g.past (other _ _ i.1 _ i.2 _ _ i.3 g.more (λ e. omega arith)),
    )

pub loop-record-preserved : goal.loop-record-preserved
loop-record-preserved c =
    let i = c.loop-record.invariant in
    let g = given _ c.loop-record.record-iterator _ i.0 i.2 c.next.new.self c.in-Some.record c.in-Some.ensures.steps in
    let k = c.kind-kind.ensures ∙ g.kind in (
      g.same,
      with_record c.args.s.now c.loop-record.record-iterator.at i.1,
      rw g.past (walk_more _ _ _ _ i.2 g.more),
      rw g.past (other _ _ i.1 _ i.2 _ _ i.3 g.more (λ e. omega arith)),
    )

pub returns : goal.returns
returns c =
    let i = c.loop-record.invariant in
    placing_end _ _ _ _ _ _ _ (walk_passed _ _ _ _ i.2).inside (at_end _ c.loop-record.record-iterator _ i.0 i.2 c.next.new.self c.in-None.ensures.steps) i.3
