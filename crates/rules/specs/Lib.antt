-- What a reader must believe of the rules, in the order of document 01; and Parts, which no entry's promise cites.
pub mod Sizes
pub mod Setups
pub mod Stores
pub mod Calls
pub mod Operations
pub mod Answers
pub mod Refusals
pub mod Entries
pub mod Links
pub mod Parts
