-- `reaching::nearing::nearer` meets its contract.
use Rattle.std.proofs.Common.{rules, tests}
use Rattle.chains.specs.Chains.{nearer}
use Rattle.reaching.specs.Tables.{links_in}
use Rattle.reaching.proofs.Made.{made_is}
use Rattle.reaching.proofs.nearing.nearer.Goals as goal

pub returns : goal.returns
returns c = made_is _ _ _ _ (nearer (links_in c.args.links.now) c.args.before.now c.args.n) 0 c.from_fn.ensures.items (λ i y q l t. search (rules, tests))
