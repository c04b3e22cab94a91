pub mod OrderLaws
pub mod OrderOnly
