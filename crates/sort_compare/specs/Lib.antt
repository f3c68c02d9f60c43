-- What a reader of the contracts of Sort and Compare must believe.
pub mod Answers
-- how its code goes about it
pub mod Inner
