-- `Scan::test_arc` meets its contract: each answer rewrites `arc_reply` with the tests that led to it. Assumes nothing.
use Prim.Native.Nat.{ℕ, ◌<◌}
use mathlib.Core.Path.{◌≡◌, ◌∙◌, sym}
use mathlib.Core.Bool.{Bool, ◌&&◌}
use borrow.Author.Tests.{eq-eqb, ne_eqb, le-ltb, lt-ltb, le-leb, lt-leb}
use native.Mathlib.Omega.{arith}
use Rattle.std.specs.Ordering.{is_le, is_lt, nat_cmp}
use Rattle.book.specs.Format.{symbol_count, most_arcs, given, arc_reply}
use Rattle.book.proofs.Laws.{in_latest}
use Rattle.book.proofs.Scan.test_arc.Goals as goal
use Rattle.book.proofs.Scan.test_arc.Goals.{else-contains-via-then-contains+then-contains-2+else-self-a, else-contains-via-then-contains+else-contains-2, else-contains-via-else-contains}

-- the range's answer is that of `given`
latest : (first states k : ℕ) {x y : Bool} → x ≡ (is_le (nat_cmp first k) && is_lt (nat_cmp k states)) → x ≡ y → given first states k ≡ y
latest first states k p q = sym (in_latest first states k) ∙ sym p ∙ q

pub returns-then-self-eq0 : goal.returns-then-self-eq0
unfolding arc_reply
returns-then-self-eq0 c = simp (eq-eqb _ _ c.if-self-eq0.true)

pub returns-then-high-ge-SYMBOLS : goal.returns-then-high-ge-SYMBOLS
unfolding arc_reply
returns-then-high-ge-SYMBOLS c =
    let few : c.args.self.now.arcs < most_arcs = omega arith in
    simp (ne_eqb _ _ c.if-self-eq0.false, lt-leb _ _ few, le-leb _ _ c.if-high-ge-SYMBOLS.true)

pub returns-then-high-low : goal.returns-then-high-low
unfolding arc_reply
returns-then-high-low c =
    let few : c.args.self.now.arcs < most_arcs = omega arith in
    simp (ne_eqb _ _ c.if-self-eq0.false, lt-leb _ _ few, lt-leb _ _ c.if-high-ge-SYMBOLS.false, lt-ltb _ _ c.if-high-low.true)

pub returns-then-self-a : goal.returns-then-self-a
unfolding arc_reply
returns-then-self-a c =
    let few : c.args.self.now.arcs < most_arcs = omega arith in
    let h : c.args.high < symbol_count = omega arith in
    simp (
      ne_eqb _ _ c.if-self-eq0.false,
      lt-leb _ _ few,
      lt-leb symbol_count _ h,
      le-ltb _ _ c.if-high-low.false,
      latest _ _ c.args.from c.contains.ensures.value c.if-contains.true,
      latest _ _ c.args.to c.contains-then-contains.ensures.value c.if-contains-2.true,
      eq-eqb _ _ c.if-self-a.true,
    )

pub returns-else-contains : goal.returns-else-contains
unfolding arc_reply
returns-else-contains c =
    let few : c.args.self.now.arcs < most_arcs = omega arith in
    let h : c.args.high < symbol_count = omega arith in
    elim c.else-contains.branch [
      | else-contains-via-then-contains+then-contains-2+else-self-a w ↦
          simp (
            ne_eqb _ _ c.if-self-eq0.false,
            lt-leb _ _ few,
            lt-leb symbol_count _ h,
            le-ltb _ _ c.if-high-low.false,
            latest _ _ c.args.from c.contains.ensures.value w.if-contains.true,
            latest _ _ c.args.to w.contains-then-contains.ensures.value w.if-contains-2.true,
            ne_eqb _ _ w.if-self-a.false,
          )
      | else-contains-via-then-contains+else-contains-2 w ↦
          simp (
            ne_eqb _ _ c.if-self-eq0.false,
            lt-leb _ _ few,
            lt-leb symbol_count _ h,
            le-ltb _ _ c.if-high-low.false,
            latest _ _ c.args.from c.contains.ensures.value w.if-contains.true,
            latest _ _ c.args.to w.contains-then-contains.ensures.value w.if-contains-2.false,
          )
      | else-contains-via-else-contains w ↦
          simp (
            ne_eqb _ _ c.if-self-eq0.false,
            lt-leb _ _ few,
            lt-leb symbol_count _ h,
            le-ltb _ _ c.if-high-low.false,
            latest _ _ c.args.from c.contains.ensures.value w.if-contains.false,
          )
    ]
