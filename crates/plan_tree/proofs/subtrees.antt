-- Laws: full subtrees one height lower, and bounds on them.
pub mod SubtreesFromBelow
