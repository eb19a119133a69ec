-- What a reader must believe of the line rules, in the order of document 01.
pub mod Bytes
pub mod Lines
pub mod Decimals
pub mod Shapes
pub mod Readings
pub mod Entries
