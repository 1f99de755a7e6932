pub mod Spelt
pub mod ReadAnswered
