-- `judging::fitting::entries_fit` meets its contract, entry by entry.
use Rattle.std.proofs.Common.{rules}
use Rattle.std.proofs.iter.runs.Made.{chains}
use Rattle.judging.proofs.Asked.{asked_all}
use Rattle.judging.proofs.fitting.entries_fit.Goals as goal

pub returns : goal.returns
returns c = asked_all _ _ _ (λ e k l. search (rules, chains)) (λ e. search (rules, chains))
