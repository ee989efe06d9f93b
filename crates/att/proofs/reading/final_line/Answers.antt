use Rattle.std.proofs.Common.{◌∙◌, ap}
use Rattle.att.specs.Results.{line_read}
use Rattle.att.proofs.Results.{passed_on}
use Rattle.att.proofs.Rows.{final_cut, final_high, final_whole}
use Rattle.att.proofs.reading.final_line.Goals as goal

pub returns-in_err-state : goal.returns-in_err-state
returns-in_err-state c next =
    ap (λ r. line_read r next) (passed_on _ _ c.from_residual.ensures.1)
    ∙ rw c.in_err-state.ensures.0 (final_high _ _ c.in_err-state.ensures.1)
    ∙ final_cut _ _ next c.cut.ensures.field

pub returns : goal.returns
returns c next = final_whole _ _ _ c.in_ok-state.ensures.0 c.in_ok-state.ensures.1 ∙ final_cut _ _ next c.cut.ensures.field
