-- What the contracts of the code that takes a setup's bytes cite.
pub mod Given
