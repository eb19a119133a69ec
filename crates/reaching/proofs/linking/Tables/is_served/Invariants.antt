-- `reaching::linking::Tables::is_served` meets its contract. The loop's invariant: whether one of the classes passed serves.
use mathlib.Core.Path.{◌≡◌}
use Rattle.rules.specs.Sizes.{some_below}
use Rattle.reaching.specs.Tables.{serving}
use Rattle.reaching.proofs.linking.Tables.is_served.Given as goal

abbrev pub invariant-loop-t : goal.invariant-loop-t
invariant-loop-t l = l.some ≡ some_below l.t (serving l.self.rights.now l.self.filed l.d l.e)
