-- `trial::cases_in_use` meets its contract: each check passes by the table's claim for its case.
use native.Mathlib.Omega.{arith}
use Rattle.rules.specs.Calls.{in_quads}
use Rattle.trial.specs.Trials.{in_pairs}
use Rattle.trial.proofs.Told.{handed_on, handed_left}
use Rattle.trial.proofs.Twelve.{comes_out}
use Rattle.trial.proofs.cases_in_use.Goals as goal

pub expect-requires : goal.expect-requires
unfolding in_quads in_pairs
expect-requires c = c.answers.ensures.1 (handed_on _ _ c.q_in_use-used.ensures (comes_out 18 (omega arith)).0)

pub expect-requires-2 : goal.expect-requires-2
unfolding in_quads
expect-requires-2 c = c.leaves.ensures.1 (handed_left _ c.q_in_use-used.ensures (comes_out 18 (omega arith)).1)

pub expect-requires-3 : goal.expect-requires-3
unfolding in_quads in_pairs
expect-requires-3 c = c.answers-2.ensures.1 (handed_on _ _ c.q_in_use-used.ensures (comes_out 19 (omega arith)))
