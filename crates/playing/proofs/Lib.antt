pub mod Kept
pub mod Past
pub mod Plays
pub mod Few
pub mod Replayed
pub mod Most
pub mod Ends
