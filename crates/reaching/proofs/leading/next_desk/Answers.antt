-- `reaching::leading::next_desk` meets its contract, by what the search promises.
use mathlib.Core.Path.{◌∙◌}
use native.Mathlib.Omega.{arith}
use Rattle.std.proofs.Common.{rules}
use Rattle.chains.specs.Chains.{next_desk}
use Rattle.reaching.proofs.Searched.{searched}
use Rattle.reaching.proofs.Linked.{leads_told}
use Rattle.reaching.proofs.leading.next_desk.Goals as goal

pub returns : goal.returns
unfolding next_desk
returns c =
    let (links, to, desk) = c.requires in
    let lowest = c.lowest.ensures in
    searched _ _ _
    (λ k l.
    let e = lowest.none_below k l in
    leads_told _ _ _ _ _ desk (omega (arith, lowest.within)) (omega (arith, lowest.within, to)) ∙ search (rules, e))
    lowest.within
    (λ l. let e = lowest.found l in leads_told _ _ _ _ _ desk l (omega (arith, to)) ∙ search (rules, e))
