pub mod Runs
pub mod Most
