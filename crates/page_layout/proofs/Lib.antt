pub mod LayoutLaws
pub mod TestLaws
