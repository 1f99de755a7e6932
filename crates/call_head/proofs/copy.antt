pub mod Copied
pub mod Rows
