pub mod ListLaws
pub mod LatestLaws
pub mod StoreLaws
