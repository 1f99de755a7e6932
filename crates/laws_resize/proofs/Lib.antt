pub mod growth
pub mod resizing
pub mod rising
