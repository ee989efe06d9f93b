-- Document 02, No. 5: "7 is no longer given", whatever the bytes are: each test of a record has a lower number, and a byte after the end is 8. Assumes
-- nothing.
use Prim.Native.Nat.{ℕ, zero, suc, ◌+◌, ◌≤◌}
use mathlib.Core.Bool.{Bool, true, false, cond, not}
use mathlib.Core.List.{List}
use mathlib.Core.Logic.{◌≢◌}
use mathlib.Core.Path.{◌≡◌, refl, subst, sym}
use native.Mathlib.Omega.{arith}
use borrow.Author.Tests.{eqb-true, eqb-false}
use lib.Dec.{eqb, leb, ltb}
use lib.ListN.{length}
use Rattle.book.specs.Format.{symbol_count, most_rules, most_states, most_arcs, longest_word, right_part, both_flags, rule_kind, state_kind, arc_kind, end_kind}
use Rattle.book.specs.Format.{length_at, symbols_at, part_at, flags_at, from_at, low_at, high_at, to_at, end_size, byte, record_size, symbols_fit, given}
use Rattle.book.specs.Format.{rule_reply, state_reply, arc_reply, end_reply, kind_reply, record_reply}
use Rattle.book.specs.Reading.{Book, empty, scan_of, Read, ended, read_from, read_book, answer, check_def}
use Rattle.book.specs.declared.Scan.{Scan}
use Rattle.book.proofs.Progress.{read_refused, read_end, read_more}

-- a test with a number up to 6, and those after it
test : (c : Bool) (r rest : ℕ) → r ≤ 6 → rest ≤ 6 → cond c r rest ≤ 6
test true r rest h g = h
test false r rest h g = g

rule_low : (s : List ℕ) (at rules : ℕ) → rule_reply s at rules ≤ 6
unfolding rule_reply
rule_low s at rules =
    let n = byte s (at + length_at) in
    test (leb most_rules rules) 3 _ (omega arith)
    (test (ltb longest_word n) 5 _ (omega arith)
    (test (not (symbols_fit s (at + symbols_at) n longest_word)) 5 0 (omega arith) (omega arith)))

state_low : (part flags rules states : ℕ) → state_reply part flags rules states ≤ 6
unfolding state_reply
state_low part flags rules states =
    test (eqb rules 0) 4 _ (omega arith)
    (test (leb most_states states) 3 _ (omega arith)
    (test (ltb right_part part) 5 _ (omega arith)
    (test (ltb both_flags flags) 5 0 (omega arith) (omega arith))))

arc_low : (from low high to : ℕ) (g : Scan) → arc_reply from low high to g ≤ 6
unfolding arc_reply
arc_low from low high to g =
    test (eqb g.rules 0) 4 _ (omega arith)
    (test (leb most_arcs g.arcs) 3 _ (omega arith)
    (test (leb symbol_count high) 5 _ (omega arith)
    (test (ltb high low) 5 _ (omega arith)
    (test (not (given g.first g.states from)) 6 _ (omega arith)
    (test (not (given g.first g.states to)) 6 _ (omega arith)
    (test (not (eqb (byte g.parts from) (byte g.parts to))) 6 0 (omega arith) (omega arith)))))))

end_low : (rules : ℕ) → end_reply rules ≤ 6
unfolding end_reply
end_low rules = test (eqb rules 0) 4 0 (omega arith) (omega arith)

kind_low : (s : List ℕ) (at : ℕ) (g : Scan) → kind_reply s at g ≤ 6
unfolding kind_reply
kind_low s at g =
    let k = byte s at in
    test (eqb k rule_kind) _ _ (rule_low s at g.rules)
    (test (eqb k state_kind) _ _ (state_low (byte s (at + part_at)) (byte s (at + flags_at)) g.rules g.states)
    (test (eqb k arc_kind) _ _ (arc_low (byte s (at + from_at)) (byte s (at + low_at)) (byte s (at + high_at)) (byte s (at + to_at)) g)
    (end_low g.rules)))

record_low : (s : List ℕ) (at : ℕ) (g : Scan) → record_reply s at g ≤ 6
unfolding record_reply
record_low s at g =
    test (leb (length s) at) 1 _ (omega arith)
    (test (eqb (record_size (byte s at)) 0) 2 _ (omega arith)
    (test (ltb (length s) (at + record_size (byte s at))) 1 _ (omega arith) (kind_low s at g)))

abbrev Other : Read → Type 0
Other x = (answer x).reply ≢ 7

module _ (s : List ℕ) where
  ended_other : (t : Bool) (at : ℕ) (b : Book) → Other (ended t at b)
  ended_other true at b e = omega arith
  ended_other false at b e = omega arith

  one_other : (n at : ℕ) (b : Book) (m : ℕ) (t : Bool) → record_reply s at (scan_of b) ≡ m → eqb (byte s at) end_kind ≡ t
      → ((at' : ℕ) (b' : Book) → Other (read_from n s at' b')) → Other (read_from (suc n) s at b)
  one_other n at b (suc m) t e k ih =
      subst Other (sym (read_refused n s at b (suc m) e (omega arith))) (λ q. omega (arith, q, e, record_low s at (scan_of b)))
  one_other n at b zero true e k ih = subst Other (sym (read_end n s at b e (eqb-true _ _ k))) (ended_other (ltb (at + end_size) (length s)) at b)
  one_other n at b zero false e k ih = subst Other (sym (read_more n s at b e (eqb-false _ _ k))) (ih _ _)

  all_other : (n at : ℕ) (b : Book) → Other (read_from n s at b)
  unfolding read_from
  all_other zero at b = λ e. omega arith
  all_other (suc n) at b = one_other n at b _ _ refl refl (all_other n)

  pub never_7 : (check_def s).reply ≢ 7
  unfolding check_def read_book
  never_7 = all_other (suc (length s)) 0 empty
