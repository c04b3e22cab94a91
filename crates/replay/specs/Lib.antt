pub mod Guards
pub mod Play
pub mod Laid
pub mod OnPlaces
