-- What a reader of Decide's contracts must believe.
pub mod Answers
-- how its code goes about it
pub mod Inner
