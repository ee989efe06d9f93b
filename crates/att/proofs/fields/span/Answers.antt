use Rattle.std.proofs.Common.{rules, tests, eqb, ◌∙◌}
use Rattle.std.proofs.lemmas.Iterator.{YieldsList-from_slice}
use Rattle.std.proofs.lemmas.Iterator.Search.{position_from_yields_List}
use Rattle.att.proofs.Parting.{span_is}
use Rattle.att.proofs.fields.span.Goals as goal

pub returns : goal.returns
returns c =
    c.unwrap_or.ensures
    ∙ span_is c.args.b c.args.s.now _ (position_from_yields_List (λ x. eqb x c.args.b) _ _ _ c.position.ensures.ran (YieldsList-from_slice c.args.s.now cc)
    (λ x b q k. search (rules, tests)))
