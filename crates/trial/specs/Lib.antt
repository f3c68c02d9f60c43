-- What Trial answers, and what its functions promise one another.
pub mod Answers
pub mod Jumps
pub mod Turns
