-- Laws for callers.
pub mod Rows
pub mod Settling
pub mod Expanding
