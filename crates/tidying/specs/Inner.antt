-- The steps of tidying: at an operator's row, packing, and both with tables for the rows.
pub mod Operators
pub mod Packed
pub mod Tables
