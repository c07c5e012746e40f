pub mod EndLaws
pub mod NumberLaws
pub mod FieldLaws
pub mod LineLaws
