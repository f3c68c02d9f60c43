-- The pairs of a strategy's sheet, by the rows at which they stand, and the numbers that their test is made of.
pub mod Pairs
pub mod Levels
