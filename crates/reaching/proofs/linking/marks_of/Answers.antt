-- `reaching::linking::marks_of` meets its contract. The loop's invariant: the numbers that stand among the entries passed are marked.
use native.Mathlib.Omega.{arith}
use Rattle.reaching.proofs.Marked.{marked_none, marked_more, marked_all}
use Rattle.reaching.proofs.linking.marks_of.Goals as goal

pub loop-at-init : goal.loop-at-init
loop-at-init g c = marked_none _ _

pub loop-at-preserved : goal.loop-at-preserved
loop-at-preserved g c = marked_more _ _ _ _ c.loop-at.invariant (c.requires _ c.loop-at-test.true)

pub returns : goal.returns
returns g c = marked_all _ _ _ _ c.loop-at.invariant (omega arith)
