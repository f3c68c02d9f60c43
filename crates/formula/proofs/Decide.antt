-- The laws of the search beside Solve.
-- Assumes nothing.
pub mod Lone
pub mod Right
pub mod More
pub mod Budget
pub mod Examples
