-- `grids::filling::fill` meets its contract. The loop's invariant: the columns of the desks passed stand in the room.
use Rattle.reaching.specs.Tables.{links_in}
use Rattle.grids.specs.Grids.{grid_number}
use Rattle.grids.proofs.Placed.{Grown}
use Rattle.grids.proofs.filling.fill.Given as goal

abbrev pub invariant-loop-b : goal.invariant-loop-b
invariant-loop-b l = Grown l.desks (grid_number (links_in l.links)) l.initial.room l.room l.b
