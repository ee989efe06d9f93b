-- What ACCOUNT reports is within its lines (Fits.antt), so their front can be printed.
use Rattle.std.proofs.Common.{arith}
use Rattle.std.proofs.Math.ListN.{length-take}
use Rattle.pads.proofs.Fits.{fits_lines}
use Rattle.pads.proofs.account_tape.Goals as goal

pub overflow_mul-lines : goal.overflow_mul-lines
overflow_mul-lines g c = omega (arith, c.try_account.auto.lines, fits_lines _ _ _ _ _ _ c.in-Ok.ensures)

pub slice_bounds-lines-end : goal.slice_bounds-lines-end
slice_bounds-lines-end g c = fits_lines _ _ _ _ _ _ c.in-Ok.ensures

pub slice_bounds-put_account-end : goal.slice_bounds-put_account-end
slice_bounds-put_account-end g c = simp length-take (omega (arith, fits_lines _ _ _ _ _ _ c.in-Ok.ensures))
