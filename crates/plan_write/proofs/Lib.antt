pub mod rewriting
