pub mod CellLaws
pub mod LinesLaws
pub mod SweepLaws
pub mod MarksLaws
