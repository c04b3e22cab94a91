pub mod OnTrace
pub mod Line
pub mod Pairs
pub mod Times
pub mod Calm
pub mod Marks
pub mod Sight
