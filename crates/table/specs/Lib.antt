pub mod Refusal
pub mod Rows
pub mod Fit
pub mod Check
pub mod Seen
pub mod Tests
pub mod Showing
