-- Records, a list between two turns, and a list in parts: definitions that no entry point cites.
pub mod Records
pub mod Turns
pub mod Parts
