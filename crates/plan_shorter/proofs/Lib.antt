pub mod PlannedAsDefined
pub mod PlanByCases
