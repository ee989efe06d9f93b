-- `outline::outline_of` meets its contract: one walk over the records of an accepted book, with the outline as far as it has come (`Outlining`).
-- Assumes nothing.
use Prim.Native.Nat.{ℕ, ◌-◌}
use mathlib.Core.Path.{refl, ap₂, sym, subst, ◌∙◌}
use native.Mathlib.Omega.{arith}
use Rattle.book.specs.Outline.{Joined, state_bits}
use Rattle.book.proofs.Placing.{place_fits}
use Rattle.book.proofs.Stepping.{given, at_end}
use Rattle.book.proofs.Outlining.{outlining_start, state_fits_in, outlining_rule, outlining_state, outlining_other, outlining_end}
use Rattle.book.proofs.outline.outline_of.Goals as goal

pub loop-record-init : goal.loop-record-init
loop-record-init c =
    rw c.into_iter-record-iterator.ensures.into_iter_gives
    (refl, outlining_start _ _ _ c.requires.s_value c.requires.places_value.0 c.requires.places_value.1)

pub overflow_cast-places : goal.overflow_cast-places
overflow_cast-places c =
    let i = c.loop-record.invariant in
    let g = given _ c.loop-record.record-iterator _ i.0 i.1.walk c.next.new.self c.in-Some.record c.in-Some.ensures.steps in
    omega (arith, g.place, place_fits _ _ _ _ i.1.walk)

pub bounds-places-states : goal.bounds-places-states
bounds-places-states c =
    let i = c.loop-record.invariant in
    let g = given _ c.loop-record.record-iterator _ i.0 i.1.walk c.next.new.self c.in-Some.record c.in-Some.ensures.steps in
    (state_fits_in _ _ _ _ _ _ i.1 (sym g.kind ∙ sym c.kind-kind.ensures ∙ c.in-2.is)).0

pub overflow_sub-rules : goal.overflow_sub-rules
overflow_sub-rules c =
    let i = c.loop-record.invariant in
    let g = given _ c.loop-record.record-iterator _ i.0 i.1.walk c.next.new.self c.in-Some.record c.in-Some.ensures.steps in
    omega (arith, (state_fits_in _ _ _ _ _ _ i.1 (sym g.kind ∙ sym c.kind-kind.ensures ∙ c.in-2.is)).1)

pub add_state-requires-clause-room : goal.add_state-requires-clause-room
add_state-requires-clause-room c =
    let i = c.loop-record.invariant in
    let g = given _ c.loop-record.record-iterator _ i.0 i.1.walk c.next.new.self c.in-Some.record c.in-Some.ensures.steps in
    let z = state_fits_in _ _ _ _ _ _ i.1 (sym g.kind ∙ sym c.kind-kind.ensures ∙ c.in-2.is) in
    (z.0, z.2)

pub loop-record-preserved-in-1-1 : goal.loop-record-preserved-in-1-1
loop-record-preserved-in-1-1 c =
    let i = c.loop-record.invariant in
    let g = given _ c.loop-record.record-iterator _ i.0 i.1.walk c.next.new.self c.in-Some.record c.in-Some.ensures.steps in
    (g.same, rw g.past (outlining_rule _ _ _ _ _ _ i.1 (sym g.kind ∙ sym c.kind-kind.ensures ∙ c.in-1.is)))

pub loop-record-preserved-in-2-1 : goal.loop-record-preserved-in-2-1
loop-record-preserved-in-2-1 c =
    let i = c.loop-record.invariant in
    let g = given _ c.loop-record.record-iterator _ i.0 i.1.walk c.next.new.self c.in-Some.record c.in-Some.ensures.steps in
    let bits = subst (λ (f : ℕ → ℕ → ℕ → ℕ). Joined (f c.loop-record.states (c.loop-record.rules - 1)) c.loop-record.masks c.add_state.new.masks)
    (ap₂ state_bits g.book g.place) c.add_state.ensures in
    (g.same, rw g.past (outlining_state _ _ _ _ _ _ i.1 _ _ g.place (sym g.kind ∙ sym c.kind-kind.ensures ∙ c.in-2.is) bits))

pub loop-record-preserved-in-3-1 : goal.loop-record-preserved-in-3-1
loop-record-preserved-in-3-1 c =
    let i = c.loop-record.invariant in
    let g = given _ c.loop-record.record-iterator _ i.0 i.1.walk c.next.new.self c.in-Some.record c.in-Some.ensures.steps in
    let k = c.kind-kind.ensures ∙ g.kind in
    (g.same, rw g.past (outlining_other _ _ _ _ _ _ i.1 g.more (λ e. omega arith) (λ e. omega arith)))

pub loop-record-preserved-in-0-1 : goal.loop-record-preserved-in-0-1
loop-record-preserved-in-0-1 c =
    let i = c.loop-record.invariant in
    let g = given _ c.loop-record.record-iterator _ i.0 i.1.walk c.next.new.self c.in-Some.record c.in-Some.ensures.steps in
    let k = c.kind-kind.ensures ∙ g.kind in
    (g.same, rw g.past (outlining_other _ _ _ _ _ _ i.1 g.more (λ e. omega arith) (λ e. omega arith)))

pub loop-record-preserved : goal.loop-record-preserved
loop-record-preserved c =
    let i = c.loop-record.invariant in
    let g = given _ c.loop-record.record-iterator _ i.0 i.1.walk c.next.new.self c.in-Some.record c.in-Some.ensures.steps in
    let k = c.kind-kind.ensures ∙ g.kind in
    (g.same, rw g.past (outlining_other _ _ _ _ _ _ i.1 g.more (λ e. omega arith) (λ e. omega arith)))

pub returns-clause-places_after : goal.returns-clause-places_after
returns-clause-places_after c =
    let i = c.loop-record.invariant in
    (outlining_end _ _ _ _ _ _ i.1 (at_end _ c.loop-record.record-iterator _ i.0 i.1.walk c.next.new.self c.in-None.ensures.steps)).0

pub returns-clause-masked : goal.returns-clause-masked
returns-clause-masked c =
    let i = c.loop-record.invariant in
    (outlining_end _ _ _ _ _ _ i.1 (at_end _ c.loop-record.record-iterator _ i.0 i.1.walk c.next.new.self c.in-None.ensures.steps)).1
