pub mod copy
