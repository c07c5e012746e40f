pub mod LoopLaws
pub mod JoinedLaws
pub mod SlotLaws
pub mod CutsLaws
pub mod DirectoryLaws
