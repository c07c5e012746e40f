pub mod LoopLaws
pub mod GridLaws
pub mod ExtentLaws
pub mod TileLaws
pub mod SoundLaws
