pub mod PagesSound
pub mod Walks
