-- The stages of Check's code: definitions that no entry point cites.
pub mod Stages
