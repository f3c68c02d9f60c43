-- The contracts of the entry points need no definition of their own.
pub mod Inner
