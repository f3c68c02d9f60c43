-- What a reader of Strategy's contract must believe.
pub mod Answers
-- how its code goes about it
pub mod Inner
