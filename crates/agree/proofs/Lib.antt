pub mod Moves
pub mod Chains
pub mod Theorems
pub mod Exists
