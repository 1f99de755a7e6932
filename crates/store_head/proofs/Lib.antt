pub mod Handing
pub mod AsDefined
