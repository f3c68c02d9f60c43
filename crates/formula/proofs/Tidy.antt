-- The laws of tidying.
-- Assumes nothing.
pub mod Children
pub mod Same
pub mod Truth
pub mod Limits
pub mod Growth
pub mod Examples
