pub mod BackLaws
pub mod CallLaws
pub mod EveryoneLaws
pub mod NarrowLaws
pub mod RunLaws
pub mod SignOnLaws
