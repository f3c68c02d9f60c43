-- What a reader of Guards' contracts must believe.
pub mod Answers
-- how its code goes about it
pub mod Inner
