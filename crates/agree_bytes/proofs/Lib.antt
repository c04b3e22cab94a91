pub mod Decoded
pub mod Theorems
pub mod Replayed
pub mod Coded
