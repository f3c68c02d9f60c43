-- What Claim's code decides and writes: definitions that no entry point cites.
pub mod Writing
pub mod Plans
