-- The laws of the definitions in specs/: a file for each of theirs but Parts, Codes, Decodes and Quads on parts of the calls and entries,
-- Contents on what a file holds, RefusalNumbers on a refusal's number, and Lists, Told, Passed and Filled on lists, tests and loops.
pub mod Answers
pub mod Calls
pub mod Codes
pub mod Contents
pub mod Decodes
pub mod Entries
pub mod Filled
pub mod Links
pub mod Lists
pub mod Passed
pub mod Quads
pub mod RefusalNumbers
pub mod Refusals
pub mod Setups
pub mod Sizes
pub mod Stores
pub mod Told
