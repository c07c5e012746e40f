pub mod OwnLaws
pub mod StoreLaws
