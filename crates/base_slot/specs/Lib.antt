pub mod usable
