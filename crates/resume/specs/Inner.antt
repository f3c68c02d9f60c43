-- A run that goes on: definitions that no entry point cites.
pub mod Going
