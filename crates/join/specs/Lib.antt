-- What a reader of Join's contract must believe.
pub mod Answers
-- how its code goes about it
pub mod Inner
