pub mod free
