pub mod FlushLaws
pub mod AfterLaws
