pub mod NotedAsTheyStand
pub mod Bounds
pub mod Walks
pub mod Rows
pub mod Knowing
