pub mod Latest
pub mod Told
