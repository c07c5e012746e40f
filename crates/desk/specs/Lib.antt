pub mod Call
pub mod Held
pub mod Laid
pub mod Layout
pub mod Making
pub mod Sound
pub mod Views
