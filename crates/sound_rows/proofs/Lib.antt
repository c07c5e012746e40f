pub mod ClimbLaws
pub mod ColumnsLaws
pub mod CodeLaws
