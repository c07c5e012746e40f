pub mod ChainLaws
pub mod MarksLaws
pub mod PageLaws
pub mod SoundLaws
pub mod StoreLaws
pub mod WalkLaws
