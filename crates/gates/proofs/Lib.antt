-- The laws of the gate report: of its refusals and answers, of what it promises, and what a house asks of a gate beside.
pub mod Whole
pub mod Told
pub mod Houses
