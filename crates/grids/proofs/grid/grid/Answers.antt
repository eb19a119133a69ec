-- `grids::grid::grid` meets its contract: the refusal and the room are the grid's, and so its numbers meet demand 3.
use Prim.Native.Nat.{ℕ}
use mathlib.Core.Path.{◌≡◌, ap, sym, ◌∙◌}
use mathlib.Core.List.{List, ◌++◌}
use native.Mathlib.Omega.{arith}
use lib.ListN.{length, drop}
use Rattle.rules.proofs.Setups.{accepted_sizes}
use Rattle.chains.specs.Chains.{Links}
use Rattle.reaching.specs.Tables.{most_pairs}
use Rattle.grids.specs.Grids.{grid_length, grid_over}
use Rattle.grids.proofs.Squares.{grid_small}
use Rattle.grids.proofs.Whole.{grid_sound, refused_kept, gridded_filled, room_filled}
use Rattle.grids.proofs.Agreed.{promised}
use borrow.Author.Rules.{rules}
use Rattle.grids.proofs.grid.grid.Goals as goal

pub returns-in_err-grid_refusal-clause-room : goal.returns-in_err-grid_refusal-clause-room
returns-in_err-grid_refusal-clause-room c = refused_kept _ _ _ c.in_err-grid_refusal.ensures

pub links_of-links-requires : goal.links_of-links-requires
links_of-links-requires c = (grid_sound _ _ (sym c.in_ok-grid_refusal.ensures)).setup

pub fill-requires : goal.fill-requires
fill-requires c =
    let h = grid_sound _ _ (sym c.in_ok-grid_refusal.ensures) in
    let long : length c.links_of-links.result ≡ most_pairs = search rules in
    (long, (accepted_sizes _ h.setup).of_desks.high, h.spacious)

pub overflow_cast-count : goal.overflow_cast-count
overflow_cast-count c = omega (arith, grid_small c.args.setup (grid_sound _ _ (sym c.in_ok-grid_refusal.ensures)).setup)

pub returns : goal.returns
returns c =
    let at = c.args in
    let e = sym c.in_ok-grid_refusal.ensures in
    let over : Links → List ℕ = λ l. grid_over l at.setup.desks ++ drop (grid_length at.setup) at.room.now in
    promised at.setup at.room.now (sym (gridded_filled at.setup at.room.now e))
    (c.fill.ensures ∙ ap over c.links_of-links.ensures ∙ sym (room_filled at.setup at.room.now e))
