-- How Force goes about it: definitions that no entry point cites.
pub mod Moves
pub mod Judging
