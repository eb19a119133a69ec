-- What the contracts of functions that are no entries cite.
pub mod Looking
pub mod Turns
