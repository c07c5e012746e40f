pub mod DueLaws
pub mod SettledLaws
pub mod TableLaws
