-- `trial::comparing::holds` meets its contract, by what the room without the front is.
use Rattle.std.proofs.Common.{rules}
use Rattle.trial.proofs.Told.{holds_told}
use Rattle.trial.proofs.comparing.holds.Goals as goal

pub returns : goal.returns
returns c = holds_told _ _ _ c.is_some_and.result c.strip_prefix.ensures.cases (search rules)
