-- Definitions that no entry point cites.
pub mod Chain
pub mod Draft
pub mod Writing
pub mod OuterPlan
