-- The rows of pairs; no entry point cites these.
pub mod Pairs
