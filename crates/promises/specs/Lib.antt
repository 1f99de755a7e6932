pub mod Demands
pub mod Heads
