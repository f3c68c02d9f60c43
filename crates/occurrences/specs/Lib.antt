-- Where the literals of a set stand.
pub mod Chains
pub mod Occurrences
