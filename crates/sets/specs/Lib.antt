-- Sets of numbers in words.
pub mod Sets
