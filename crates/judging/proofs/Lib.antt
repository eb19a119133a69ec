-- The laws that several proofs of the judging code cite.
pub mod Acceptances
pub mod Asked
