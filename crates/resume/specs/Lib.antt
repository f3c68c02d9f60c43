-- What a reader of Resume's contract must believe.
pub mod Calls
-- how its code goes about it
pub mod Inner
