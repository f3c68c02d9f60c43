-- Laws of the function as it is written, and of what is decided.
mod Selection
mod Writing
pub mod Functions
mod Deciding
