pub mod OnOrder
pub mod Agree
pub mod Decided
