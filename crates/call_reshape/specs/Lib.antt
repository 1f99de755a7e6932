pub mod shorter
