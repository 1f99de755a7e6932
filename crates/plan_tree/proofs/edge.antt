-- Laws: the right edge one height lower, and bounds on it.
pub mod EdgeFromBelow
