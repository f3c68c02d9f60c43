-- How the reader's code goes about it: definitions that no entry point cites.
pub mod Lists
pub mod Header
pub mod Cursor
pub mod Clauses
pub mod Marks
pub mod Rows
pub mod Body
