-- The matrix as a chain of jumps.
pub mod Jumps
