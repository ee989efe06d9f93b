-- `rewriter::refusals::first_bad` meets its contract: no symbol is bad where the greatest is not; else the search finds the first. Assumes nothing.
use Rattle.std.proofs.Common.{sym, rules}
use Rattle.std.proofs.lemmas.Iterator.{YieldsList-from_slice}
use Rattle.std.proofs.lemmas.Iterator.Search.{position_from_yields_List}
use Rattle.std.specs.Prelude.{nat_le}
use borrow.Author.Tests.{tests}
use Rattle.book.specs.Format.{symbol_count}
use Rattle.rewriter.proofs.Early.{bad_none, bad_found}
use Rattle.rewriter.proofs.refusals.first_bad.Goals as goal

pub returns-then-greatest-lt-SYMBOLS : goal.returns-then-greatest-lt-SYMBOLS
returns-then-greatest-lt-SYMBOLS c = sym (bad_none c.args.tape.now c.greatest.result c.greatest.ensures c.if-greatest-lt-SYMBOLS.true)

pub returns : goal.returns
returns c =
    bad_found _ _
    (position_from_yields_List (λ x. nat_le symbol_count x) _ _ _ c.position.ensures.ran (YieldsList-from_slice c.args.tape.now cc)
    (λ x b q k. search (rules, tests)))
