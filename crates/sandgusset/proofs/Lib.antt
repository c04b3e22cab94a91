pub mod FitLaws
pub mod OnlyLaws
