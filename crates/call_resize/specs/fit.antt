pub mod Found
pub mod Measures
