pub mod CodeLaws
pub mod FreeLaws
