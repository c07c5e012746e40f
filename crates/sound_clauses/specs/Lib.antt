pub mod Cells
pub mod Grid
pub mod Loops
pub mod Radios
pub mod Round
pub mod Waiting
