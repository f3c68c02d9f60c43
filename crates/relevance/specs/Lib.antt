-- The relevant subtree of a matrix for a set of literals: how it is found, and what its expansion costs.
pub mod Raw
pub mod Walks
