pub mod Blocks
pub mod PatchedAsPlanned
