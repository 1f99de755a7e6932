pub mod growth
pub mod rising
