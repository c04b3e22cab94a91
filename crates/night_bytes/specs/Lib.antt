pub mod NightBytes
