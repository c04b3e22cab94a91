pub mod DecideLaws
pub mod OnlyLaws
