-- The laws of certificates.
-- Assumes nothing.
pub mod Core
pub mod Constraints
pub mod Reduction
pub mod Truth
pub mod Answers
pub mod Walk
pub mod Examples
