pub mod IndexLaws
pub mod JudgeLaws
