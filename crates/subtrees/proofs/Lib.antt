-- Laws for callers.
pub mod Forest
pub mod Table
pub mod Matrix
pub mod Siblings
