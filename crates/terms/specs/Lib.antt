pub mod Terms
pub mod Refusals
pub mod Values
