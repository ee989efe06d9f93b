-- `numbering::number_sets` meets its contract: the outer loop stands before row k and the inner one before symbol a of it; rows and sets
-- hold the table after that many pairs, and the number of the last step's set is at hand. A number that is written is below the most, by the
-- two ways to come to it. Assumes nothing.
use Prim.Native.Nat.{◌<◌}
use mathlib.Core.Path.{sym, ◌∙◌}
use native.Mathlib.Omega.{arith}
use Rattle.book.specs.Format.{symbol_count}
use Rattle.book.proofs.Accepted.{is_accepted}
use Rattle.book.proofs.Sound.{accepted_sound}
use Rattle.sets.specs.Numbering.{most_sets}
use Rattle.sets.specs.Sides.{side_table}
use Rattle.sets.proofs.Rows.{blank, close_first, close_row}
use Rattle.sets.proofs.At.{clear_sets_lem, before_first, whole, in_first, in_rest, in_new, in_old, in_full, old_small}
use Rattle.sets.proofs.numbering.number_sets.Goals as goal
use Rattle.sets.proofs.numbering.number_sets.Goals.{in-Some, in-None+else-count-eq-MOST_SETS}

pub bounds-sets-0 : goal.bounds-sets-0
bounds-sets-0 c = omega (arith, clear_sets_lem _ _ c.requires)

pub all-init : goal.all-init
all-init c =
    before_first _ _ _ _ _ _ c.requires c.close.ensures
    (c.close.ensures ∙ close_first _ (accepted_sound _ _ (is_accepted _ c.args.outline.now.states.accepted)) _ c.args.outline.now.masked _)

pub make-requires : goal.make-requires
make-requires c = blank c.args.side 0

pub loop-symbol-init : goal.loop-symbol-init
loop-symbol-init c =
    in_first _ _ _ _ _ _ _ _ _ _ c.all.invariant c.if-k-count.false
    (close_row _ (accepted_sound _ _ (is_accepted _ c.args.outline.now.states.accepted)) _ c.args.outline.now.masked _ _ _ c.make.ensures.each)

pub number_of-requires : goal.number_of-requires
number_of-requires c = c.loop-symbol.invariant.known

pub overflow_cast-rows : goal.overflow_cast-rows
overflow_cast-rows c =
    let t : c.loop-symbol.symbol < symbol_count = omega (arith, c.loop-symbol-test.true, c.steps_end-end.ensures.after.few) in
    let i = c.loop-symbol.invariant in
    let small : c.match-number_of.number < most_sets =
    elim c.match-number_of.branch [
      | in-Some w ↦ omega (arith, old_small _ _ _ _ _ _ _ _ _ _ _ i t _ (sym w.in-Some.is ∙ c.number_of.ensures), w.number-is)
      | in-None+else-count-eq-MOST_SETS w ↦ omega (arith, i.at.small, w.number-is, w.if-count-eq-MOST_SETS.false)
    ] in
    omega arith

pub loop-symbol-preserved : goal.loop-symbol-preserved
loop-symbol-preserved c =
    let t : c.loop-symbol.symbol < symbol_count = omega (arith, c.loop-symbol-test.true, c.steps_end-end.ensures.after.few) in
    let i = c.loop-symbol.invariant in
    elim c.match-number_of.branch [
      | in-Some w ↦ in_old _ _ _ _ _ _ _ _ _ _ _ i t _ (sym w.in-Some.is ∙ c.number_of.ensures) _ _ _ w.number-is w.sets-is w.count-is
      | in-None+else-count-eq-MOST_SETS w ↦ in_new _ _ _ _ _ _ _ _ _ _ _ i t (sym w.in-None.is ∙ c.number_of.ensures) _ w.close-in-None.ensures (omega (arith, i.at.small, w.if-count-eq-MOST_SETS.false)) _ _ _ (omega (arith, w.number-is)) w.sets-is w.count-is
    ]

pub all-preserved : goal.all-preserved
all-preserved c =
    in_rest _ _ _ (close_first _ (accepted_sound _ _ (is_accepted _ c.args.outline.now.states.accepted)) _ c.args.outline.now.masked _) _ _ _ _ _ _ _ _ _
    c.loop-symbol.invariant c.steps_end-end.ensures.after (omega arith)

pub returns-then-k-count : goal.returns-then-k-count
unfolding side_table
returns-then-k-count c = whole _ _ _ _ _ _ c.all.invariant.at c.if-k-count.true

pub returns-then-count-eq-MOST_SETS : goal.returns-then-count-eq-MOST_SETS
unfolding side_table
returns-then-count-eq-MOST_SETS c =
    let t : c.loop-symbol.symbol < symbol_count = omega (arith, c.loop-symbol-test.true, c.steps_end-end.ensures.after.few) in
    in_full _ _ _ _ _ _ _ _ _ _ _ c.loop-symbol.invariant t (sym c.in-None.is ∙ c.number_of.ensures) c.if-count-eq-MOST_SETS.true
