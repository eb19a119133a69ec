-- The laws of the step, and of a call that was judged.
pub mod Ran
pub mod Ranges
pub mod Turns
