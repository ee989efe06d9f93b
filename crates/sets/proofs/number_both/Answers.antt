-- `number_both` meets its contract by each of three ways out: more left sets than the most, more right ones, both sides numbered. Assumes nothing.
use Prim.Native.Nat.{◌+◌}
use mathlib.Core.Path.{refl, sym, ap, ◌∙◌}
use native.Mathlib.Omega.{arith}
use lib.Seq.{length-take-le}
use Rattle.std.proofs.Common.{Err}
use Rattle.book.specs.declared.replies.Refusal.{Refusal}
use Rattle.sets.specs.Numbering.{most_sets, pairs}
use Rattle.sets.specs.Results.{built}
use Rattle.sets.proofs.Parts.{placed_at, part_room, numbered_over}
use Rattle.sets.proofs.WaysOut.{by_name, way_on, way_left, way_right, way_built}
use Rattle.sets.proofs.number_both.Goals as goal

pub slice_bounds-number_side-end-2 : goal.slice_bounds-number_side-end-2
slice_bounds-number_side-end-2 c = sym (length-take-le pairs c.args.rows.now (omega arith))

pub slice_bounds-number_side-end-4 : goal.slice_bounds-number_side-end-4
slice_bounds-number_side-end-4 c = sym (length-take-le most_sets c.args.sets.now (omega arith))

pub number_side-left-requires : goal.number_side-left-requires
number_side-left-requires c = (length-take-le pairs c.args.rows.now (omega arith), length-take-le most_sets c.args.sets.now (omega arith))

pub returns-in_default : goal.returns-in_default
returns-in_default c =
    let h = c.requires.row_bytes_in_bounds in
    way_left _ _ _ _ (most_sets + 1) _ _
    (placed_at _ _ 0 0 c.args.rows.now c.args.sets.now _ _ (omega arith) (omega arith) c.number_side-left.auto.rows c.number_side-left.auto.sets (numbered_over _ _ _ (c.in_default.ensures)))
    _ _ _ (omega arith) c.clear.ensures.rows_after c.clear.ensures.sets_after (ap (λ (x : Refusal). built (Err x)) c.at.ensures)
    ∙ by_name _ _ _ ∙ way_on _ _ _ c.args.outline.now.states.accepted h.0 h.1

pub returns-in_default-right : goal.returns-in_default-right
returns-in_default-right c =
    let h = c.requires.row_bytes_in_bounds in
    way_right _ _ _ _ _ _ _
    (placed_at _ _ 0 0 c.args.rows.now c.args.sets.now _ _ (omega arith) (omega arith) c.number_side-left.auto.rows c.number_side-left.auto.sets (c.in-Some.ensures).1)
    (c.in-Some.ensures).0 (most_sets + 1) _ _
    (placed_at _ _ pairs most_sets _ _ _ _ (part_room 0 pairs _ _ _ c.number_side-left.auto.rows h.0) (part_room 0 most_sets _ _ _ c.number_side-left.auto.sets h.1) c.number_side-right.auto.rows c.number_side-right.auto.sets (numbered_over _ _ _ (c.in_default-right.ensures)))
    _ _ _ (omega arith) c.clear-in_default-right.ensures.rows_after c.clear-in_default-right.ensures.sets_after
    (ap (λ (x : Refusal). built (Err x)) c.at-in_default-right.ensures)
    ∙ by_name _ _ _ ∙ way_on _ _ _ c.args.outline.now.states.accepted h.0 h.1

pub returns : goal.returns
returns c =
    let h = c.requires.row_bytes_in_bounds in
    way_built _ _ _ _ _ _ _
    (placed_at _ _ 0 0 c.args.rows.now c.args.sets.now _ _ (omega arith) (omega arith) c.number_side-left.auto.rows c.number_side-left.auto.sets (c.in-Some.ensures).1)
    (c.in-Some.ensures).0 _ _ _
    (placed_at _ _ pairs most_sets _ _ _ _ (part_room 0 pairs _ _ _ c.number_side-left.auto.rows h.0) (part_room 0 most_sets _ _ _ c.number_side-left.auto.sets h.1) c.number_side-right.auto.rows c.number_side-right.auto.sets (c.in-Some-right.ensures).1)
    _ (c.in-Some-right.ensures).0 refl
    ∙ by_name _ _ _ ∙ way_on _ _ _ c.args.outline.now.states.accepted h.0 h.1
