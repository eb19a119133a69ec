-- `grids::filling::fill` meets its contract. The loop's invariant: the columns of the desks passed stand in the room.
use Prim.Native.Nat.{ℕ}
use mathlib.Core.Path.{◌≡◌, ap, ◌∙◌}
use mathlib.Core.List.{List}
use native.Mathlib.Omega.{arith}
use lib.ListN.{length, take}
use lib.Seq.{get_or-take, length-take-le}
use Rattle.rules.specs.Sizes.{most_desks}
use Rattle.chains.specs.Chains.{far}
use Rattle.grids.specs.Grids.{links_or_none, grid_over}
use Rattle.grids.specs.Columns.{column_of}
use Rattle.grids.proofs.Placed.{grown_more, grown_all}
use borrow.Author.Rules.{rules}
use Rattle.grids.proofs.filling.fill.Goals as goal

pub loop-b-preserved : goal.loop-b-preserved
loop-b-preserved c =
    let n = c.args.desks in
    let to = c.reach-to.result in
    let all : length to ≡ most_desks = search rules in
    let some : length (take n to) ≡ n = length-take-le n to (omega (arith, all, c.requires)) in
    grown_more {f = column_of (take n to)} c.loop-b.invariant c.requires.2 c.loop-b-test.true
    (λ a l. ap links_or_none (get_or-take n to a far l) ∙ ap (λ (xs : List ℕ). column_of xs a) c.reach-to.ensures)
    (rw some at c.put_column.ensures)

pub returns : goal.returns
unfolding grid_over
returns c = grown_all c.loop-b.invariant c.requires.2 (omega (arith, c.loop-b-test.false))
