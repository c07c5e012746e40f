pub mod Call
pub mod Read
