-- `reaching::nearing::stands` meets its contract.
use lib.Dec.{eqb}
use Rattle.judging.proofs.Asked.{asked_of_some}
use Rattle.reaching.proofs.nearing.stands.Goals as goal

pub returns : goal.returns
returns c = asked_of_some c.args.to.now (λ y. eqb y c.args.k) _ c.contains.ensures.cases
