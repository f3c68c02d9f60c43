-- What Response's code decides and writes: definitions that no entry point cites.
pub mod Function
pub mod ResponsePlan
