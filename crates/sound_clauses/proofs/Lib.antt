pub mod CellsLaws
pub mod GridLaws
pub mod LoopsLaws
pub mod RadiosLaws
pub mod RoundLaws
pub mod WaitingLaws
pub mod WellLaws
