pub mod Shown
pub mod PlaceAnswered
