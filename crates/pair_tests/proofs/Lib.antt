-- Laws for callers.
pub mod Children
pub mod Stands
pub mod Marking
pub mod Deepest
pub mod Ordered
