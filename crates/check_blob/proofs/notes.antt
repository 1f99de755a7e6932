pub mod WalkAsDefined
pub mod Bounds
pub mod Putting
pub mod Answering
pub mod RootVisited
