pub mod ShownLaws
pub mod DecideLaws
pub mod OnlyLaws
