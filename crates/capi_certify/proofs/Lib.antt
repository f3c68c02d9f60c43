-- Taking an answer apart gives it back, and what it says about truth.
pub mod Unpacking
pub mod Telling
pub mod Clauses
