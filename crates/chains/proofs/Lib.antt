-- The laws of chains.
pub mod Lowest
pub mod Before
pub mod Chains
pub mod Reach
pub mod Walk
pub mod Shortest
pub mod Pigeons
pub mod Enough
pub mod Acts
pub mod Avoids
pub mod EveryChain
