pub mod SeatLaws
pub mod FixLaws
pub mod LatestLaws
pub mod OnLaws
