pub mod rewriting
pub mod stretch
