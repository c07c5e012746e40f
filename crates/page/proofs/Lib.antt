pub mod BufferLaws
pub mod ChainLaws
pub mod PageLaws
