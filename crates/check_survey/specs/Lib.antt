pub mod Reached
pub mod chart
pub mod refusal
pub mod sites
pub mod worn
