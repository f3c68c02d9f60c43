-- The laws of expansion one block out (N6).
-- Assumes nothing.
pub mod Part
pub mod Apart
pub mod Closure
pub mod Witness
pub mod Fresh
pub mod Mix
pub mod Truth
pub mod Step
pub mod Linked
pub mod Examples
