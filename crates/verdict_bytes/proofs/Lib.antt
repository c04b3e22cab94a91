pub mod TableLaws
pub mod TableOnly
