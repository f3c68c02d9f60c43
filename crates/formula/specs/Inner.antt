-- Definitions that no entry point cites.
pub mod Clauses
pub mod Pairs
pub mod Function
