-- `judging::accepting::given_rights` meets its contract: each right is the one given for its place.
use Rattle.std.proofs.Common.{rules}
use Rattle.judging.proofs.Asked.{made_table}
use Rattle.judging.proofs.accepting.given_rights.Goals as goal

pub returns : goal.returns
returns c = made_table _ _ _ _ (λ i y q l h. (search rules, search rules)) _ c.from_fn.ensures.items
