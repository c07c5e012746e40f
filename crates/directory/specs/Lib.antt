pub mod Directory
pub mod Cuts
