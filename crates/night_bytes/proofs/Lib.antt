pub mod WordLaws
pub mod NightByteLaws
pub mod OnlyLaws
