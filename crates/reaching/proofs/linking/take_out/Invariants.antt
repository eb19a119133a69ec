-- `reaching::linking::take_out` meets its contract. The loop's invariant: the desk is taken out as far as the desks passed.
use Rattle.reaching.proofs.TakenOut.{TakenOut}
use Rattle.reaching.proofs.linking.take_out.Given as goal

abbrev pub invariant-loop-d : goal.invariant-loop-d
invariant-loop-d l = TakenOut l.initial.links l.c l.links l.d
