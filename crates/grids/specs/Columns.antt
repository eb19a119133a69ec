-- For the functions that fill the grid, which are no entries: the grid as it stands column after column.
use Rattle.std.specs.Prelude.{ℕ, zero, suc, List, set, get_or}
use Rattle.chains.specs.Chains.{far}
use Rattle.grids.specs.Grids.{links_or_none, grid_place}

-- the numbers of a column, by the numbers of links that each desk stands from the desk that hears
abbrev pub column_of : List ℕ → ℕ → ℕ
column_of to a = links_or_none (get_or to a far)

-- the room with the first n numbers of column b of a grid of so many desks
unfoldable pub with_column : ℕ → ℕ → (ℕ → ℕ) → ℕ → List ℕ → List ℕ
with_column desks b f zero room = room
with_column desks b f (suc n) room = set (with_column desks b f n room) (grid_place desks n b) (f n)
