pub mod SlotsLaws
pub mod LaidLaws
pub mod JoinLaws
pub mod NearLaws
