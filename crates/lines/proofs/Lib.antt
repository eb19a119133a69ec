-- The laws of the line rules.
pub mod Cases
pub mod Decimals
pub mod Entries
pub mod Faults
pub mod Kept
pub mod Lines
pub mod Readings
pub mod Rights
pub mod Shapes
