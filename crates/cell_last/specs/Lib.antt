pub mod Frames
pub mod Settling
