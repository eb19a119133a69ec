-- What a reader must believe of the twelve sheets of trial; and Starts, for inner functions.
pub mod Trials
pub mod Starts
