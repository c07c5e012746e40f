pub mod BeginLaws
