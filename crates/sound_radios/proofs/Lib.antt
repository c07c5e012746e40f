pub mod BoundLaws
pub mod HeldLaws
pub mod KnownLaws
pub mod ReadLaws
pub mod SoundLaws
pub mod TestLaws
