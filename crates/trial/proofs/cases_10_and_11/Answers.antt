-- `trial::cases_10_and_11` meets its contract: each check passes by the table's claim for its case.
use native.Mathlib.Omega.{arith}
use Rattle.trial.proofs.Told.{handed_route}
use Rattle.trial.proofs.Twelve.{comes_out}
use Rattle.trial.proofs.cases_10_and_11.Goals as goal

pub expect-requires : goal.expect-requires
expect-requires c = c.reports.ensures.1 (handed_route _ _ _ _ _ _ c.q-q.ensures (comes_out 14 (omega arith)))

pub expect-requires-2 : goal.expect-requires-2
expect-requires-2 c = c.reports-2.ensures.1 (handed_route _ _ _ _ _ _ c.q-q.ensures (comes_out 15 (omega arith)))

pub expect-requires-3 : goal.expect-requires-3
expect-requires-3 c = c.reports-3.ensures.1 (handed_route _ _ _ _ _ _ c.q-q.ensures (comes_out 16 (omega arith)))

pub expect-requires-4 : goal.expect-requires-4
expect-requires-4 c = c.reports-4.ensures.1 (handed_route _ _ _ _ _ _ c.q-q.ensures (comes_out 17 (omega arith)))
