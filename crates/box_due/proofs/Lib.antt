pub mod ReachLaws
pub mod CrowdingLaws
pub mod DueLaws
