-- `reaching::linking::take_out` meets its contract. The loop's invariant: the desk is taken out as far as the desks passed.
use native.Mathlib.Omega.{arith}
use Rattle.reaching.proofs.TakenOut.{taken_all}
use Rattle.reaching.proofs.linking.take_out.Goals as goal

pub returns : goal.returns
returns c = taken_all _ _ _ _ c.loop-d.invariant (omega arith)
