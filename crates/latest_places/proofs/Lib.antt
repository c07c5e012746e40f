pub mod LatestLaws
pub mod TellLaws
