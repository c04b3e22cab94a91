pub mod ReachLaws
pub mod RoundLaws
pub mod OnlyLaws
