pub mod WalkLaws
pub mod BestLaws
pub mod SoonLaws
pub mod EndLaws
pub mod BackLaws
pub mod OutcomeLaws
pub mod StartLaws
