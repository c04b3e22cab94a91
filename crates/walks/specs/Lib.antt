pub mod Walks
pub mod Soon
pub mod Best
