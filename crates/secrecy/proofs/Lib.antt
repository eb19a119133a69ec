-- The laws of secrecy, for any machine.
pub mod Front
pub mod Runs
pub mod StruckOut
pub mod Closed
