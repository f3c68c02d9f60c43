-- The contract of the reader needs no definition of its own.
pub mod Inner
