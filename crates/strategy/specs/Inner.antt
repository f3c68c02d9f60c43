-- How Strategy goes about it: definitions that no entry point cites.
pub mod Drafts
pub mod Walking
pub mod Ending
