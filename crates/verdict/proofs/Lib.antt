pub mod LineLaws
pub mod PairLaws
pub mod JudgeLaws
pub mod CalmLaws
pub mod MarkLaws
pub mod TimeLaws
pub mod SightLaws
pub mod QuietLaws
