-- Laws: the numbers of a blob that gets longer are small and in order, and what is drawn is what its root holds.
pub mod Sizes
pub mod RootDrawn
