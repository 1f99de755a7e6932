pub mod Spelt
pub mod Marks
pub mod Known
