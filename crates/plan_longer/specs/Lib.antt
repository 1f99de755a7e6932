pub mod Plans
pub mod enlarged
pub mod fresh
pub mod taken
pub mod towers
