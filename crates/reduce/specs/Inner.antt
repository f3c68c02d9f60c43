-- What Reduce's code decides and writes: definitions that no entry point cites.
pub mod Places
pub mod Clauses
pub mod ReducePlan
