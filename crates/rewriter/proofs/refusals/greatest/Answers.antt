-- `rewriter::refusals::greatest` meets its contract: the fold is the greatest symbol of the whole tape. Assumes nothing.
use Rattle.std.proofs.Common.{◌≡◌, rules, ℕ, max, List, [], ◌∷◌, refl, ◌∙◌}
use Rattle.std.specs.List.{fold}
use Rattle.stretches.specs.Lists.{greatest}
use Rattle.rewriter.proofs.refusals.greatest.Goals as goal

folds : (l : List ℕ) (n : ℕ) → fold max n l ≡ greatest n l
unfolding greatest
folds [] n = refl
folds (x ∷ l) n = folds l (max n x)

pub returns : goal.returns
returns c = let e : c.fold.result ≡ fold max 0 c.args.tape.now = search rules in e ∙ folds c.args.tape.now 0
