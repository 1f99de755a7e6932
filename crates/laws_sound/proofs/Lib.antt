pub mod again
pub mod sound
