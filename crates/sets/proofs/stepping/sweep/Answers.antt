-- `stepping::sweep` meets its contract: the loop goes over the records after the state's own to the end of its rule, by `Reading`; an arc's
-- record adds its hop on each symbol, a state's moves the number on, the next rule or the book's end ends the rule, and there is no other record.
-- Assumes nothing.
use native.Mathlib.Omega.{arith}
use Rattle.book.specs.Format.{from_at, to_at}
use Rattle.book.proofs.Placing.{place_fits}
use Rattle.sets.proofs.Sweep.{no_kind, other_kind, sweep_start, sweep_passed, sweep_state}
use Rattle.sets.proofs.Making.{on_zero, record_stands, reading_start, reading_arc, reading_state, reading_end, reading_none}
use Rattle.sets.proofs.stepping.sweep.Goals as goal

pub overflow_add-at : goal.overflow_add-at
overflow_add-at g c =
    let i = sweep_start from_at to_at _ _ _ 0 0 c.args.states.now.accepted c.requires.place_value c.requires.place_nonzero in
    omega (arith, place_fits _ _ _ _ i.walk)

pub overflow_add-next : goal.overflow_add-next
overflow_add-next g c =
    let i = sweep_start from_at to_at _ _ _ 0 0 c.args.states.now.accepted c.requires.place_value c.requires.place_nonzero in
    omega (arith, i.count, i.walk.sound.states)

pub loop-step-init : goal.loop-step-init
loop-step-init g c = reading_start _ _ _ _ c.args.states.now.accepted c.requires.place_value c.requires.place_nonzero

pub bounds-book-at : goal.bounds-book-at
bounds-book-at g c = (sweep_passed _ _ _ _ _ _ _ _ _ _ (on_zero _ _ _ _ _ _ _ c.loop-step.invariant)).inside

pub add-requires : goal.add-requires
add-requires g c = record_stands _ _ _ _ _ _ _ c.loop-step.invariant c.in-3.is

pub loop-step-preserved-in-3-1 : goal.loop-step-preserved-in-3-1
loop-step-preserved-in-3-1 g c = reading_arc _ _ _ _ _ _ _ c.loop-step.invariant _ c.in-3.is c.add.ensures

pub overflow_add-next-in-2 : goal.overflow_add-next-in-2
overflow_add-next-in-2 g c = omega (arith, sweep_state _ _ _ _ _ _ _ _ _ _ (on_zero _ _ _ _ _ _ _ c.loop-step.invariant) c.in-2.is)

pub loop-step-preserved : goal.loop-step-preserved
loop-step-preserved g c = reading_state _ _ _ _ _ _ _ c.loop-step.invariant c.in-2.is

pub returns-in-1 : goal.returns-in-1
returns-in-1 g c = reading_end _ _ _ _ _ _ _ c.loop-step.invariant c.in-1.is

pub returns-in-0 : goal.returns-in-0
returns-in-0 g c = reading_none _ _ _ _ _ _ _ c.loop-step.invariant (no_kind _ c.in-0.in-0-own.keys4)

pub returns-in-0-2 : goal.returns-in-0-2
returns-in-0-2 g c = reading_none _ _ _ _ _ _ _ c.loop-step.invariant (other_kind _ c.in-0.in-0-own.rest.0.0.0.1 c.in-0.in-0-own.rest.0.0.1 c.in-0.in-0-own.rest.0.1)
