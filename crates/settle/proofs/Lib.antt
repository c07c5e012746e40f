pub mod LoopLaws
pub mod PartsLaws
pub mod SettleLaws
