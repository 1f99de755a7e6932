-- Laws: seats one height lower, and bounds on them.
pub mod SeatsFromBelow
