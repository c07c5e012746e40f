pub mod JoinLaws
pub mod SearchLaws
pub mod NeighbourLaws
