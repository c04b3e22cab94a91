pub mod Letters
pub mod Kept
pub mod Runs
pub mod Rows
