-- What a reader must believe of the grid; and Columns, for inner functions.
pub mod Grids
pub mod Columns
