pub mod WholeLaws
pub mod FewLaws
pub mod DeskLaws
