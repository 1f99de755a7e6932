pub mod Plannable
pub mod counts
