pub mod Halving
pub mod Reaching
pub mod Searching
pub mod Answering
