-- How Decide goes about it: definitions that no entry point cites.
pub mod Waiting
pub mod Running
pub mod Searching
