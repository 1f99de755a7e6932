pub mod cuts
pub mod edge
pub mod seats
