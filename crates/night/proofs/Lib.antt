pub mod PartLaws
pub mod NightLaws
pub mod LentLaws
pub mod OutcomeLaws
