-- `trial::case_9` meets its contract: each check passes by the table's claim for its case.
use native.Mathlib.Omega.{arith}
use Rattle.rules.specs.Calls.{in_quads}
use Rattle.trial.specs.Trials.{in_pairs}
use Rattle.trial.proofs.Told.{handed_on, handed_route}
use Rattle.trial.proofs.Twelve.{comes_out}
use Rattle.trial.proofs.case_9.Goals as goal

pub expect-requires : goal.expect-requires
expect-requires c = c.reports.ensures.1 (handed_route _ _ _ _ _ _ c.q-q.ensures (comes_out 11 (omega arith)))

pub expect-requires-2 : goal.expect-requires-2
unfolding in_quads in_pairs
expect-requires-2 c = c.answers.ensures.1 (handed_on _ _ c.q-q.ensures (comes_out 12 (omega arith)))

pub expect-requires-3 : goal.expect-requires-3
unfolding in_quads in_pairs
expect-requires-3 c = c.answers-2.ensures.1 (handed_on _ _ c.q-q.ensures (comes_out 13 (omega arith)))
