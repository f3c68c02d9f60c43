-- The prefix by the numbers of its rows.
pub mod Places
