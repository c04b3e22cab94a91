pub mod OnTable
pub mod Agree
pub mod Shown
pub mod Plain
pub mod Decided
