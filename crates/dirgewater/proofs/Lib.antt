-- The laws of what crosses to C.
pub mod Crossings
