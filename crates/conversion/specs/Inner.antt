-- What converting rows asks for: definitions that no entry point cites.
pub mod Rows
