-- Laws for callers.
pub mod Marks
pub mod Settling
