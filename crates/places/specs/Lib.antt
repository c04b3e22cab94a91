pub mod OnFile
pub mod Places
pub mod ShownBytes
