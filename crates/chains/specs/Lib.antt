-- The chains of links between desks, and the one that a report takes.
pub mod Chains
