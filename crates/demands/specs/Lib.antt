pub mod Demands
pub mod Files
pub mod Lasting
pub mod Same
pub mod Trace
pub mod Watched
