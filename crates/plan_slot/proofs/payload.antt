pub mod Rows
pub mod SlotsPutIn
pub mod Copies
pub mod Cells
