-- The copies' numbers and their prefix rows.
pub mod Numbers
pub mod Prefixes
