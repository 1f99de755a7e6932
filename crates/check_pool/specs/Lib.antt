pub mod roots
