-- The contracts of the two conversions need no definition of their own.
pub mod Inner
