-- Laws of the walk and of the pool check, both ways, and of the slots after a call's changes.
pub mod TimesListed
pub mod Cells
pub mod Walks
pub mod Blobs
pub mod Pools
pub mod Replaced
pub mod After
pub mod Steps
