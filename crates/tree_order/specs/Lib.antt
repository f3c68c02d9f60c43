-- Rows compared from left to right, tables of row numbers that stand for trees, and trees in order.
pub mod Rows
pub mod Tables
pub mod Arranging
pub mod Merging
