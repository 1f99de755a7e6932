-- Laws: the numbers of a block on the old right edge are small, and what is drawn is what it holds.
pub mod Sizes
pub mod EdgeDrawn
