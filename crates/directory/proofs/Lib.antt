pub mod CellLaws
pub mod NumberLaws
pub mod CutsLaws
pub mod DirectoryLaws
