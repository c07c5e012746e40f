pub mod AreasLaws
pub mod MembersLaws
pub mod NumbersLaws
pub mod OnLaws
pub mod RadioLaws
pub mod ReachLaws
