-- `Scan::test_state` meets its contract: after the counts the part decides, then the flags. Assumes nothing.
use Prim.Native.Nat.{◌≤◌, ◌<◌}
use borrow.Author.Tests.{eq-eqb, ne_eqb, le-ltb, lt-ltb, le-leb, lt-leb}
use native.Mathlib.Omega.{arith}
use Rattle.book.specs.Format.{right_part, both_flags, state_reply}
use Rattle.book.proofs.Scan.test_state.Goals as goal

pub returns-then-self-eq0 : goal.returns-then-self-eq0
unfolding state_reply
returns-then-self-eq0 c = simp (eq-eqb _ _ c.if-self-eq0.true)

pub returns-then-self-ge-STATES : goal.returns-then-self-ge-STATES
unfolding state_reply
returns-then-self-ge-STATES c = simp (ne_eqb _ _ c.if-self-eq0.false, le-leb _ _ c.if-self-ge-STATES.true)

pub returns-in-0-flags : goal.returns-in-0-flags
unfolding state_reply
returns-in-0-flags c =
    let p : c.args.part ≤ right_part = omega arith in
    let f : c.args.flags ≤ both_flags = omega arith in
    simp (ne_eqb _ _ c.if-self-eq0.false, lt-leb _ _ c.if-self-ge-STATES.false, le-ltb right_part _ p, le-ltb both_flags _ f)

pub returns-in-4-to-255 : goal.returns-in-4-to-255
unfolding state_reply
returns-in-4-to-255 c =
    let p : c.args.part ≤ right_part = omega arith in
    let f : both_flags < c.args.flags = omega arith in
    simp (ne_eqb _ _ c.if-self-eq0.false, lt-leb _ _ c.if-self-ge-STATES.false, le-ltb right_part _ p, lt-ltb both_flags _ f)

pub returns-in-3-to-255 : goal.returns-in-3-to-255
unfolding state_reply
returns-in-3-to-255 c =
    let p : right_part < c.args.part = omega arith in
    simp (ne_eqb _ _ c.if-self-eq0.false, lt-leb _ _ c.if-self-ge-STATES.false, lt-ltb right_part _ p)
