pub mod HandLaws
pub mod TickLaws
