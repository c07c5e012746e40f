pub mod EffectLaws
pub mod OwnLaws
