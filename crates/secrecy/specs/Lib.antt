-- The theory of secrecy, for any machine.
pub mod Machine
pub mod Strike
pub mod Views
pub mod Sets
