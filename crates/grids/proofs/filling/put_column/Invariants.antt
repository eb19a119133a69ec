-- `grids::filling::put_column` meets its contract. The loop's invariant: the numbers of the desks passed stand in the column.
use lib.ListN.{length}
use Rattle.grids.specs.Columns.{column_of}
use Rattle.grids.proofs.Placed.{Standing}
use Rattle.grids.proofs.filling.put_column.Given as goal

abbrev pub invariant-loop-a : goal.invariant-loop-a
invariant-loop-a l = Standing (length l.to) l.b (column_of l.to) l.initial.room l.room l.a
