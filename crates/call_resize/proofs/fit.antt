pub mod MoreLeaves
pub mod Shorter
pub mod Longer
