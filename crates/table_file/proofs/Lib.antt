pub mod WrittenLaws
pub mod FrameLaws
pub mod ReadLaws
pub mod WriteLaws
pub mod FileLaws
pub mod OutcomeLaws
