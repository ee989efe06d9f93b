-- `output::rewrite_ready` meets its contract: to the outline the places of the rules are added, both passes are lent them, and it is refused where symbols
-- are needed past the room of the shorter buffer, else written. Assumes nothing.
use Rattle.std.proofs.Common.{◌≡◌, Err, sym, arith, rules}
use Rattle.book.proofs.Pad.{pad_nil}
use Rattle.book.proofs.Placing.{words_at}
use Rattle.output.specs.Passes.{by, along}
use Rattle.output.proofs.Outcomes.{fits_ok, fits_err, tape_done, tape_no_room}
use Rattle.output.proofs.rewrite_ready.Goals as goal

pub place_rules-requires-clause-places_value : goal.place_rules-requires-clause-places_value
place_rules-requires-clause-places_value c = sym (pad_nil _)

pub invariant_of-writer : goal.invariant_of-writer
invariant_of-writer c = record { words_at = words_at _ _ c.args.pass.now.walk.outline.states.accepted c.place_rules.ensures }

pub returns-in_err-fits : goal.returns-in_err-fits
returns-in_err-fits c =
    let z : c.from_residual.result ≡ Err c.in_err-fits.field-0.0 = search rules in
    let short = fits_err (by c.args.pass.now) (along c.args.pass.now) c.min-room.result c.fits.result c.fits.ensures _ (c.in_err-fits.was {u = tt}) in
    rw z (tape_no_room (by c.args.pass.now) (along c.args.pass.now) c.args.out.now c.args.origins.now _ (short.0, omega (arith, short.1, c.min-room.ensures)))

pub forward-requires : goal.forward-requires
forward-requires c =
    let fit = fits_ok (by c.args.pass.now) (along c.args.pass.now) c.min-room.result c.fits.result c.fits.ensures _ (c.in_ok-fits.was {u = tt}) in
    (omega (arith, fit, c.min-room.ensures), omega (arith, fit, c.min-room.ensures))

pub returns : goal.returns
returns c =
    let fit = fits_ok (by c.args.pass.now) (along c.args.pass.now) c.min-room.result c.fits.result c.fits.ensures _ (c.in_ok-fits.was {u = tt}) in
    tape_done (by c.args.pass.now) (along c.args.pass.now) c.args.out.now c.args.origins.now c.forward.result _ _ c.forward.ensures.sized
    (omega (arith, fit, c.min-room.ensures)) c.forward.ensures.out_after c.forward.ensures.origins_after
