-- The one claim over the twelve sheets of trial, and the laws by which the program's checks follow from it.
pub mod Twelve
pub mod Answered
pub mod Unrefused
pub mod Told
