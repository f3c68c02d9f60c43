-- What Trial's functions promise one another: definitions that no entry point cites.
pub mod Turns
