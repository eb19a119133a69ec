-- `reaching::acts::file_for` meets its contract, by what the search promises.
use Rattle.std.proofs.Common.{rules}
use Rattle.reaching.proofs.Searched.{searched}
use Rattle.reaching.proofs.acts.file_for.Goals as goal

pub returns : goal.returns
returns c = searched _ _ _ (λ k l. search (rules, c.lowest.ensures.none_below k l)) c.lowest.ensures.within (λ l. search (rules, c.lowest.ensures.found l))
