-- The children kept and tried, as code holds them: definitions that no entry point cites.
pub mod Selections
pub mod Sieves
