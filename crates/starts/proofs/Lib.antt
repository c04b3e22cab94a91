pub mod LetterLaws
pub mod KeptLaws
pub mod RunLaws
pub mod TableLaws
