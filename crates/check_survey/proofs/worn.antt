pub mod WornSoFar
pub mod WornByHeights
