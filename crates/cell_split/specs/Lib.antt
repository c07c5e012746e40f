pub mod Splitting
