pub mod Rows
pub mod Span
pub mod Jumps
pub mod Loops
pub mod Evaluation
