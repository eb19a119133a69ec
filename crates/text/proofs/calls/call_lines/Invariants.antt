-- `text::calls::call_lines` meets its contract. The loop's invariant: the lines before the cursor are sound, and their calls stand in front.
use Prim.Native.Nat.{◌-◌}
use lib.ListN.{length}
use Rattle.text.proofs.Gathered.{Gathered}
use Rattle.text.proofs.calls.call_lines.Given as goal

abbrev pub invariant-loop-at : goal.invariant-loop-at
invariant-loop-at l = Gathered l.text l.start l.initial.calls l.calls l.at l.count

abbrev pub decreases-loop-at : goal.decreases-loop-at
decreases-loop-at l = length l.text - l.at
