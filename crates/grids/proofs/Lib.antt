-- The laws that the functions' proofs share, and those that tie the grid to the report and to demand 3.
pub mod Squares
pub mod Placed
pub mod Whole
pub mod Agreed
