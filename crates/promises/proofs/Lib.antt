-- The three demands as theorems: Demands exports them; the other files prove their parts.
pub mod Said
pub mod Faults
pub mod Refused
pub mod Stores
pub mod RefusedExactly
pub mod Numbers
pub mod One
pub mod Done
pub mod Two
pub mod Three
pub mod Demands
pub mod HeadReads
pub mod Heads
pub mod Example
