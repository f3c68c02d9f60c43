-- The laws of strategies.
-- Assumes nothing.
pub mod Rows
pub mod Function
pub mod Play
pub mod Truth
pub mod Moves
pub mod Ordered
pub mod Wins
pub mod Claim
pub mod Matrix
pub mod Levels
pub mod Tested
pub mod Longer
pub mod Size
pub mod Examples
