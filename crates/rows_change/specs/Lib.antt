pub mod change
