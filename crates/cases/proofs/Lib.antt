pub mod CaseLaws
pub mod Cases
