pub mod Buffer
pub mod Page
