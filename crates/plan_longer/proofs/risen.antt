-- Laws: the numbers of a block that is made as the root rises are small and in order, and what is drawn is what it holds.
pub mod Sizes
pub mod RisenDrawn
