-- `sheets::read_all` meets its contract. The loop's invariant: what has come lies inside the room.
use Rattle.std.proofs.Common.{length, ◌-◌, ◌≤◌}
use Rattle.sheets.proofs.read_all.Given as goal

abbrev pub invariant-loop-done : goal.invariant-loop-done
invariant-loop-done g l = l.done ≤ length l.initial.room

abbrev pub decreases-loop-done : goal.decreases-loop-done
decreases-loop-done g l = length l.initial.room - l.done
