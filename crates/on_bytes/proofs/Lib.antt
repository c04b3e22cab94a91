pub mod ByteLaws
pub mod OnlyLaws
