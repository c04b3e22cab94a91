pub mod HeldLaws
pub mod RoundLaws
pub mod KeptLaws
pub mod PlayLaws
pub mod ValueLaws
pub mod OnlyLaws
