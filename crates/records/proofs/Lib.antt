pub mod RecordsLaws
pub mod AskedLaws
