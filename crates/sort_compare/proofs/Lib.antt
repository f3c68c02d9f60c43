pub mod Written
pub mod Sorts
pub mod Prefixes
pub mod Compares
