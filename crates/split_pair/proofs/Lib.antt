pub mod ApartLaws
pub mod SplitLaws
