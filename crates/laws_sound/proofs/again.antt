-- Laws of calls that are done, and of runs: at every moment the store passes every check again.
pub mod Parting
pub mod Outcomes
pub mod Usable
pub mod Counts
pub mod Done
pub mod Turned
pub mod Wiped
pub mod Quiet
pub mod Runs
