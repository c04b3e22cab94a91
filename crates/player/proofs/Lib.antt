pub mod MoveLaws
pub mod OpenLaws
pub mod OnlyLaws
