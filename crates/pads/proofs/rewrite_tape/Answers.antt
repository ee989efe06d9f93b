-- What REWRITE reports of its output is within both buffers (Fits.antt), so their fronts can be printed.
use Rattle.std.proofs.Common.{arith}
use Rattle.std.proofs.Math.ListN.{length-take}
use Rattle.pads.proofs.Fits.{fits_out, fits_origins}
use Rattle.pads.proofs.rewrite_tape.Goals as goal

pub slice_bounds-out-end : goal.slice_bounds-out-end
slice_bounds-out-end g c = fits_out _ _ _ _ _ _ _ c.in-Ok.ensures

pub slice_bounds-put_output-end : goal.slice_bounds-put_output-end
slice_bounds-put_output-end g c = simp length-take (omega (arith, fits_out _ _ _ _ _ _ _ c.in-Ok.ensures))

pub slice_bounds-origins-end : goal.slice_bounds-origins-end
slice_bounds-origins-end g c = fits_origins _ _ _ _ _ _ _ c.in-Ok.ensures

pub slice_bounds-put_output-end-in-Ok : goal.slice_bounds-put_output-end-in-Ok
slice_bounds-put_output-end-in-Ok g c = simp length-take (omega (arith, fits_origins _ _ _ _ _ _ _ c.in-Ok.ensures))
