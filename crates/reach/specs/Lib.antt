pub mod Reach
pub mod Rounds
