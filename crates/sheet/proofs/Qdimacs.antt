-- The laws of reading QDIMACS (N1).
-- Assumes nothing.
pub mod Lists
pub mod Accepted
pub mod Answers
pub mod Words
pub mod Joined
pub mod Rows
pub mod Printed
pub mod Examples
