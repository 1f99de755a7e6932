pub mod LeftEdgeKnown
pub mod ReadyToCut
