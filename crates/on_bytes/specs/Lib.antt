pub mod Replays
pub mod Rewrites
