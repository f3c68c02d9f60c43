-- Laws of the clauses row by row.
mod Tables
pub mod Named
pub mod Counting
pub mod Walking
pub mod Surveying
pub mod Naming
pub mod Writing
pub mod Sheets
pub mod Answering
