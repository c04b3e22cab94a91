pub mod TraceOnly
pub mod ShownLaws
pub mod TraceLaws
