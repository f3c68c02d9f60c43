-- Taking answers apart, their ranges, and what their numbers say about truth.
pub mod Unpacking
pub mod Ranges
pub mod Telling
pub mod Strategies
