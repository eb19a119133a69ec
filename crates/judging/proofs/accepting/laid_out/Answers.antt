-- `judging::accepting::laid_out` meets its contract, entry by entry.
use Rattle.std.proofs.Common.{rules}
use Rattle.judging.proofs.Asked.{made_table}
use Rattle.judging.proofs.accepting.laid_out.Goals as goal

pub returns : goal.returns
returns g c = made_table _ _ _ _ (λ i y q l h. search rules) _ c.from_fn.ensures.items
