-- Laws for callers, and the turns of the loops.
pub mod Tables
pub mod Depending
pub mod Renumbering
mod Copied
