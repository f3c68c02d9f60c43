-- Laws of the rows of pairs.
pub mod Rows
mod Leaving
