pub mod SideLaws
pub mod BestLaws
pub mod MedianLaws
