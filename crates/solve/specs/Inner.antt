-- A run between two steps: definitions that no entry point cites.
pub mod Running
