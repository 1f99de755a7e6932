-- Laws of runs of calls: what a walk sees of another pool, what a call makes of each slot, and what a reader can be shown.
pub mod Local
pub mod Reached
pub mod Fewer
pub mod Stepped
pub mod Taken
pub mod CallSteps
pub mod Carried
pub mod History
pub mod Started
pub mod Answered
pub mod Audited
pub mod Shown
pub mod Demand
