-- `rewriter::shown::bounds_of` meets its contract: each return is a case of `bounds_of`. Assumes nothing.
use native.Mathlib.Omega.{arith}
use Rattle.rewriter.proofs.Showing.{bounds_short, bounds_crossed, bounds_past, bounds_stretch}
use Rattle.rewriter.proofs.shown.bounds_of.Goals as goal

pub returns-then-lines-line-clause-value : goal.returns-then-lines-line-clause-value
returns-then-lines-line-clause-value c = bounds_short c.args.n c.args.lines.now c.args.line (omega arith)

pub returns-then-end-start-clause-value : goal.returns-then-end-start-clause-value
returns-then-end-start-clause-value c =
    bounds_crossed c.args.n c.args.lines.now c.args.line c.from-start.result c.from-end.result (omega arith) c.from-start.ensures c.from-end.ensures
    (omega arith)

pub returns-then-n-end-clause-value : goal.returns-then-n-end-clause-value
returns-then-n-end-clause-value c =
    bounds_past c.args.n c.args.lines.now c.args.line c.from-start.result c.from-end.result (omega arith) c.from-start.ensures c.from-end.ensures
    (omega arith) (omega arith)

pub returns-clause-value : goal.returns-clause-value
returns-clause-value c =
    bounds_stretch c.args.n c.args.lines.now c.args.line c.from-start.result c.from-end.result (omega arith) c.from-start.ensures c.from-end.ensures
    (omega arith) (omega arith)
