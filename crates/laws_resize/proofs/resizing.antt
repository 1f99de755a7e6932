-- Laws of resize and write, on blobs.
pub mod Ends
pub mod SlotCounts
pub mod Last
pub mod Hanging
pub mod Longer
pub mod Keeping
pub mod Lowering
pub mod Shorter
pub mod Resized
pub mod Refilled
pub mod Cells
