pub mod SlotsLaws
pub mod LaidLaws
pub mod SplitLaws
pub mod SidesLaws
