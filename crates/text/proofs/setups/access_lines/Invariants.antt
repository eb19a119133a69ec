-- `text::setups::access_lines` meets its contract. The loop's invariant: the lines before the cursor are sound, and their rights in place.
use Prim.Native.Nat.{◌-◌}
use lib.ListN.{length}
use Rattle.text.proofs.Accessed.{Accessed}
use Rattle.text.proofs.setups.access_lines.Given as goal

abbrev pub invariant-loop-next : goal.invariant-loop-next
invariant-loop-next l = Accessed l.desks l.classes l.text l.start l.rights l.at l.least

abbrev pub decreases-loop-next : goal.decreases-loop-next
decreases-loop-next l = length l.text - l.at
