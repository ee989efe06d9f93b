-- `symbols_fit` meets its contract: each of the eight symbol bytes is asked. Assumes nothing.
use borrow.Author.Rules.{rules}
use mathlib.Core.Path.{refl, ◌∙◌}
use Prim.Native.Nat.{◌+◌}
use Rattle.std.proofs.lemmas.Iterator.{YieldsList-from_range}
use Rattle.std.proofs.lemmas.Iterator.Search.{all_from_yields_List}
use Rattle.book.specs.Format.{byte, symbol_fits}
use Rattle.book.proofs.Laws.{symbols_all}
use Rattle.book.proofs.symbols_fit.Goals as goal

pub returns : goal.returns
returns c =
    all_from_yields_List (λ i. symbol_fits c.args.n i (byte c.args.s.now (c.args.p + i))) _ _ c.all.result c.all.ensures.ran
    (YieldsList-from_range 0 8 8 refl refl) (λ x b q k. search rules)
    ∙ symbols_all c.args.s.now c.args.p c.args.n
