pub mod Fixes
pub mod Told
