pub mod WaitingLaws
pub mod OnLaws
