pub mod Copied
pub mod FirstBytes
pub mod Zeros
