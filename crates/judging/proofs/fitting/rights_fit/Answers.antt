-- `judging::fitting::rights_fit` meets its contract, row by row.
use Rattle.std.proofs.Common.{rules, refl}
use Rattle.std.proofs.lemmas.Iterator.{YieldsList-from_range}
use Rattle.std.proofs.lemmas.Iterator.Search.{all_from_yields_List}
use Rattle.rules.specs.Sizes.{most_desks}
use Rattle.rules.specs.Setups.{row_fits, rights_fit}
use Rattle.judging.proofs.Asked.{asked_below}
use Rattle.judging.proofs.fitting.rights_fit.Goals as goal

pub returns : goal.returns
unfolding rights_fit
returns c =
    asked_below _ _ _
    (all_from_yields_List (row_fits c.args.setup.now) _ _ _ c.all.ensures.ran (YieldsList-from_range 0 most_desks most_desks refl refl)
    (λ x b q k. search rules))
