-- The laws of Response, Strategy and Claim (Strategy 1).
-- Assumes nothing.
pub mod Response
pub mod Winning
pub mod Claim
pub mod Faults
pub mod Known
pub mod Longer
pub mod Examples
pub mod Ranges
