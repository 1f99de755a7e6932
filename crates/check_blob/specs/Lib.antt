pub mod Rooted
pub mod notes
pub mod visit
