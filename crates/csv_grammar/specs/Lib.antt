pub mod Csv
pub mod Order
