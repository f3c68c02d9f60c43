-- What the code of Quote and Expand decides: definitions that no entry point cites.
pub mod Block
pub mod Price
pub mod ExpandPlan
