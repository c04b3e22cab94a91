pub mod Records
pub mod Plays
