pub mod PageTest
