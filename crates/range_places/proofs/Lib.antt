pub mod TableLaws
pub mod TouchLaws
