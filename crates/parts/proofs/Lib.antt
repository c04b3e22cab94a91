pub mod WholeLaws
pub mod LiftLaws
pub mod PartLaws
