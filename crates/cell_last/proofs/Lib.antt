pub mod CellsLaws
pub mod MovedLaws
pub mod MidwayLaws
