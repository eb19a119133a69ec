-- `reaching::linking::marks_of` meets its contract. The loop's invariant: the numbers that stand among the entries passed are marked.
use Rattle.reaching.proofs.Marked.{Marked}
use Rattle.reaching.proofs.linking.marks_of.Given as goal

abbrev pub invariant-loop-at : goal.invariant-loop-at
invariant-loop-at g l = Marked g.row.N l.entries l.marks l.at-index
