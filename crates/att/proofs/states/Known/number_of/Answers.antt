use Rattle.std.proofs.Common.{◌≡◌, rules, tests, arith, eqb}
use Rattle.std.proofs.lemmas.Iterator.{YieldsList-from_slice}
use Rattle.std.proofs.lemmas.Iterator.Search.{position_from_yields_List}
use Rattle.att.specs.Survey.{states}
use Rattle.att.proofs.Names.{number_found}
use Rattle.att.proofs.states.Known.number_of.Goals as goal

pub returns : goal.returns
returns c =
    let all : c.min-count.result ≡ c.args.self.now.count = omega (arith, c.min-count.ensures, c.args.self.now.few) in
    number_found _ _ _ (position_from_yields_List (λ y. eqb y c.args.x) _ _ _ c.position.ensures.ran
    (YieldsList-from_slice (states c.args.self.now) (rw all at c.iter.ensures.rest)) (λ y b q k. search (rules, tests)))
