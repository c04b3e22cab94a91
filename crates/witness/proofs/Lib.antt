pub mod WayLaws
pub mod WitnessLaws
pub mod ReadyLaws
