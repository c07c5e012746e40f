pub mod LowerLaws
