pub mod WrittenAsItIs
pub mod LeafPlanned
pub mod PlannedAsDefined
