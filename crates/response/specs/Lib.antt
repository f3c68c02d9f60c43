-- Response's contract needs no definition of its own.
pub mod Inner
