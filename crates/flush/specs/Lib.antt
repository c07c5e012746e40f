pub mod Flush
