pub mod PlaceLaws
pub mod AgreeLaws
pub mod ReadingLaws
pub mod ShownLaws
