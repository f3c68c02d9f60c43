-- The laws of clauses by names.
-- Assumes nothing.
pub mod Names
pub mod Sound
pub mod Complete
pub mod Truth
pub mod Profile
pub mod Examples
