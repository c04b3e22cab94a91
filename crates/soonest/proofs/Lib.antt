pub mod SoonestLaws
