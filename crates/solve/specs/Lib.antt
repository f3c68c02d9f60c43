-- What a reader of Solve's contracts must believe.
pub mod Answers
pub mod Lines
pub mod Stops
-- how its code goes about it
pub mod Inner
