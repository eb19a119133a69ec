-- The laws that the functions' proofs share: of the lowest that a loop finds, of links and their table, of marks, and of reach.
pub mod Searched
pub mod Linked
pub mod TakenOut
pub mod Marked
pub mod Nearer
pub mod Made
