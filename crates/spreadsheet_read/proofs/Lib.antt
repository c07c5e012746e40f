pub mod ReadLaws
pub mod SigningLaws
