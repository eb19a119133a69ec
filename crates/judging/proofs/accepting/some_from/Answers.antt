-- `judging::accepting::some_from` meets its contract, entry by entry.
use Rattle.std.proofs.Common.{rules}
use Rattle.std.proofs.iter.runs.Made.{chains}
use Rattle.rules.specs.Refusals.{some_from}
use Rattle.judging.proofs.Asked.{asked_any}
use Rattle.judging.proofs.accepting.some_from.Goals as goal

pub returns : goal.returns
unfolding some_from
returns c = asked_any _ _ _ (λ e. search (rules, chains)) (λ e k l. search (rules, chains))
