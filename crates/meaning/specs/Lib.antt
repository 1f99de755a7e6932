-- Document 01 as definitions, in its order, and the requests of document 02 that have landed; docs/PROMISES.md has the sentence of each.
pub mod Lists
pub mod Edition
pub mod Bytes
pub mod Tree
pub mod Shape
pub mod Refusals
pub mod Walk
pub mod Change
pub mod Resize
pub mod Calls
pub mod Answers
pub mod Run
pub mod Head
pub mod Cases
