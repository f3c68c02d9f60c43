-- The clauses by the rows of a table of names: definitions that no entry point cites.
pub mod Named
pub mod Survey
pub mod Writing
