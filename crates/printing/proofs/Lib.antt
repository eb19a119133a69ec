-- The laws of what the program prints: of bytes put into a run, of how long lines are, and the program case of 01.
pub mod Cases
pub mod Parts
pub mod Ran
pub mod Shown
pub mod Texts
pub mod Widths
pub mod Written
