-- `reaching::leading::leads_on` meets its contract. The loop's invariant: whether a link leads to one of the desks passed.
use mathlib.Core.Path.{◌≡◌}
use Rattle.rules.specs.Sizes.{some_below}
use Rattle.chains.specs.Chains.{leads}
use Rattle.reaching.specs.Tables.{links_in}
use Rattle.reaching.proofs.leading.leads_on.Given as goal

abbrev pub invariant-loop-e : goal.invariant-loop-e
invariant-loop-e l = l.some ≡ some_below l.e (leads (links_in l.links) l.to l.d l.k)
