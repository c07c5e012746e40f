pub mod SoundLaws
pub mod StoreLaws
