-- Taking an answer apart gives it back, the ranges of the answers, and what their numbers say about truth.
pub mod Unpacking
pub mod Ranges
pub mod Telling
