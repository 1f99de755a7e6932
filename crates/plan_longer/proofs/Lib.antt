pub mod NoneHigher
pub mod ReadyToGrow
pub mod PlannedAsDefined
pub mod PlanByOwner
