pub mod Demands
pub mod Files
pub mod KeptLaws
pub mod Lasting
pub mod Same
pub mod Watched
