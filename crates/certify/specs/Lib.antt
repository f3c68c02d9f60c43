-- What a reader of Certify's contract must believe.
pub mod Answers
-- how its code goes about it
pub mod Inner
