-- The step's answer, and definitions that no entry point cites.
pub mod Answers
pub mod Inner
