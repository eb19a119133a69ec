-- `trial::cases_1_to_7` meets its contract: each check passes by the table's claim for its case.
use native.Mathlib.Omega.{arith}
use Rattle.rules.specs.Calls.{in_quads}
use Rattle.trial.specs.Trials.{in_pairs}
use Rattle.trial.proofs.Told.{handed_on}
use Rattle.trial.proofs.Twelve.{comes_out}
use Rattle.trial.proofs.cases_1_to_7.Goals as goal

pub expect-requires : goal.expect-requires
unfolding in_quads in_pairs
expect-requires c = c.answers.ensures.1 (handed_on _ _ c.q-q.ensures (comes_out 0 (omega arith)))

pub expect-requires-2 : goal.expect-requires-2
unfolding in_quads in_pairs
expect-requires-2 c = c.answers-2.ensures.1 (handed_on _ _ c.q-q.ensures (comes_out 1 (omega arith)))

pub expect-requires-3 : goal.expect-requires-3
unfolding in_quads in_pairs
expect-requires-3 c = c.answers-3.ensures.1 (handed_on _ _ c.q-q.ensures (comes_out 2 (omega arith)))

pub expect-requires-4 : goal.expect-requires-4
unfolding in_quads in_pairs
expect-requires-4 c = c.answers-4.ensures.1 (handed_on _ _ c.q-q.ensures (comes_out 3 (omega arith)))

pub expect-requires-5 : goal.expect-requires-5
unfolding in_quads in_pairs
expect-requires-5 c = c.answers-5.ensures.1 (handed_on _ _ c.q-q.ensures (comes_out 4 (omega arith)))

pub expect-requires-6 : goal.expect-requires-6
unfolding in_quads in_pairs
expect-requires-6 c = c.answers-6.ensures.1 (handed_on _ _ c.q-q.ensures (comes_out 5 (omega arith)))

pub expect-requires-7 : goal.expect-requires-7
unfolding in_quads in_pairs
expect-requires-7 c = c.answers-7.ensures.1 (handed_on _ _ c.q-q.ensures (comes_out 6 (omega arith)))

pub expect-requires-8 : goal.expect-requires-8
unfolding in_quads in_pairs
expect-requires-8 c = c.answers-8.ensures.1 (handed_on _ _ c.q-q.ensures (comes_out 7 (omega arith)))
