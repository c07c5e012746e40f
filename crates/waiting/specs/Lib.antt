pub mod Waiting
pub mod On
