pub mod Chain
pub mod Holds
