pub mod AreaLaws
pub mod MembersLaws
pub mod NumberLaws
pub mod UpdateLaws
