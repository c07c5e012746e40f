pub mod DecimalLaws
pub mod OrderLaws
pub mod RangeLaws
pub mod ReadLaws
