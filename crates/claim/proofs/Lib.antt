-- Laws for callers.
pub mod Negation
pub mod Turns
pub mod Claims
pub mod Deciding
pub mod Answering
